-- `columns::put_ids` meets its contract. Assumes nothing.
use mathlib.Core.List.{[], ◌∷◌}
use lib.ListN.{drop}
use Rattle.varint.specs.Varint.{wide}
use Rattle.directory.specs.Encode.{put_all}
use Rattle.writer.specs.Cells.{Rising, deltas}
use Rattle.writer.proofs.Puts.{Kept}
use Rattle.writer.proofs.columns.put_ids.Given as goal

abbrev pub invariant-loop-id : goal.invariant-loop-id
invariant-loop-id l =
    Rising l.prev (drop l.id-index l.ids)
    × Kept l.initial.out l.start (put_all wide (deltas 0 l.ids)) l.out l.at (put_all wide (deltas l.prev (drop l.id-index l.ids)) ∷ [])
