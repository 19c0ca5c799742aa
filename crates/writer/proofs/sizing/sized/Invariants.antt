-- `sizing::sized` meets its contract. The loop keeps that the sum and the size of the rest are the whole size. Assumes nothing.
use Prim.Native.Nat.{◌+◌, ◌*◌, ◌-◌, ◌≤◌}
use mathlib.Core.Path.{◌≡◌}
use lib.ListN.{length}
use Rattle.directory.specs.Answers.{end_after}
use Rattle.directory.specs.Encode.{encode}
use Rattle.writer.specs.Cells.{Codable, part, size_from, slots}
use Rattle.writer.proofs.sizing.sized.Given as goal

abbrev pub invariant-loop-i : goal.invariant-loop-i
invariant-loop-i l =
    Codable l.prev (end_after l.before) (part l.i l.to (slots l.stores))
    × (l.sum ≤ 10 + 30 * (l.i - l.from))
    × (l.sum + size_from l.prev (end_after l.before) (part l.i l.to (slots l.stores)) ≡ length (encode (part l.from l.to (slots l.stores))))
