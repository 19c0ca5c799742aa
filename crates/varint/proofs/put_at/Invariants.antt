-- `varint::put_at` meets its contract. The loop keeps that the shortest form of the rest, put at the place, is what is wanted. Assumes nothing.
use Prim.Native.Nat.{◌+◌, ◌^◌, ◌<◌}
use mathlib.Core.Path.{◌≡◌}
use lib.ListN.{length}
use lib.Seq.{sets}
use Rattle.varint.specs.Varint.{put, wide}
use Rattle.varint.proofs.put_at.Given as goal

-- `varint::put_at` meets its contract. The loop keeps that the shortest form of the rest, put at the place, is what is wanted. Assumes nothing.
abbrev pub invariant-loop-rest : goal.invariant-loop-rest
invariant-loop-rest l =
    (l.rest < 2 ^ 64)
    × (length l.out ≡ length l.initial.out)
    × (l.at + length (put wide l.rest) ≡ l.from + length (put wide l.x))
    × (sets l.out l.at (put wide l.rest) ≡ sets l.initial.out l.from (put wide l.x))

abbrev pub decreases-loop-rest : goal.decreases-loop-rest
decreases-loop-rest l = l.rest
