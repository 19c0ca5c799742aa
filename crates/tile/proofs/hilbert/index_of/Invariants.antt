-- `hilbert::index_of` meets its contract. Assumes nothing.
use Prim.Native.Nat.{◌+◌, ◌*◌, ◌^◌, ◌<◌, ◌≤◌}
use mathlib.Core.Path.{◌≡◌}
use Rattle.tile.specs.Tile.{index}
use Rattle.tile.proofs.hilbert.index_of.Given as goal

abbrev pub invariant-loop-i : goal.invariant-loop-i
invariant-loop-i l = (l.i ≤ l.z) × (l.w.x < 2 ^ l.i) × (l.w.y < 2 ^ l.i) × (l.w.h * 4 ^ l.i + index l.i l.w.x l.w.y ≡ index l.z l.x l.y)
