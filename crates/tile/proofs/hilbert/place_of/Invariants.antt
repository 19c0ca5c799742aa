-- `hilbert::place_of` meets its contract. Assumes nothing.
use Prim.Native.Nat.{◌^◌, ◌%◌}
use mathlib.Core.Path.{◌≡◌}
use Rattle.tile.specs.Tile.{place}
use Rattle.tile.proofs.hilbert.place_of.Given as goal

abbrev pub invariant-loop-i : goal.invariant-loop-i
invariant-loop-i l = (l.p.x, l.p.y) ≡ place l.i (l.h % 4 ^ l.i)
