-- `writing::encoded` meets its contract. The loop keeps that the checks of the rest are those of the whole, and so with the sizes. Assumes nothing.
use Prim.Native.Nat.{◌+◌, ◌*◌, ◌≤◌}
use mathlib.Core.Path.{◌≡◌}
use mathlib.Core.Option.{none}
use lib.ListN.{length}
use Rattle.refusal.specs.Out.{ok}
use Rattle.directory.specs.Answers.{end_after}
use Rattle.directory.specs.Encode.{encode}
use Rattle.writer.specs.Write.{check_all}
use Rattle.writer.specs.Cells.{in_use, part, size_from, slots}
use Rattle.writer.proofs.writing.encoded.Given as goal

abbrev pub invariant-loop-i : goal.invariant-loop-i
invariant-loop-i l =
    let size = length (encode (in_use l.stores)) in
    (l.prev ≤ l.lo)
    × (l.sum ≤ 10 + 30 * l.i)
    × (l.sum + size_from l.prev (end_after l.before) (part l.i l.stores.count (slots l.stores)) ≡ size)
    × (check_all l.lo (end_after l.before) (part l.i l.stores.count (slots l.stores)) (ok size) ≡ check_all 0 none (in_use l.stores) (ok size))
