-- `leaves::put_first_ids` meets its contract. Assumes nothing.
use mathlib.Core.List.{[], ◌∷◌}
use lib.ListN.{drop}
use Rattle.varint.specs.Varint.{wide}
use Rattle.directory.specs.Encode.{put_all}
use Rattle.writer.specs.Cells.{Rising, deltas}
use Rattle.writer.specs.Cuts.{every}
use Rattle.writer.proofs.Puts.{Kept}
use Rattle.writer.proofs.leaves.put_first_ids.Given as goal

abbrev pub invariant-loop-i : goal.invariant-loop-i
invariant-loop-i l =
    Rising l.prev (every l.k 0 (drop l.i l.ids))
    × Kept l.initial.out l.start (put_all wide (deltas 0 (every l.k 0 l.ids))) l.out l.at (put_all wide (deltas l.prev (every l.k 0 (drop l.i l.ids))) ∷ [])
