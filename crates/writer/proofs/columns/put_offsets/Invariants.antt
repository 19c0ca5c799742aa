-- `columns::put_offsets` meets its contract. Assumes nothing.
use Prim.Native.Nat.{◌^◌}
use mathlib.Core.List.{[], ◌∷◌}
use mathlib.Core.Option.{none}
use lib.ListN.{drop}
use Rattle.varint.specs.Varint.{wide}
use Rattle.directory.specs.Answers.{end_after}
use Rattle.directory.specs.Encode.{put_all}
use Rattle.writer.specs.Cells.{Below, offset_codes}
use Rattle.writer.proofs.Puts.{Kept}
use Rattle.writer.proofs.columns.put_offsets.Given as goal

abbrev pub invariant-loop-i : goal.invariant-loop-i
invariant-loop-i l =
    Below (2 ^ 64) (offset_codes (end_after l.before) (drop l.i l.lengths) (drop l.i l.offsets))
    × Kept l.initial.out l.start (put_all wide (offset_codes none l.lengths l.offsets)) l.out l.at
    (put_all wide (offset_codes (end_after l.before) (drop l.i l.lengths) (drop l.i l.offsets)) ∷ [])
