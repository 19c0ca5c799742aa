-- `columns::put_numbers` meets its contract: a u32 has the same shortest form at both widths. Assumes nothing.
use mathlib.Core.List.{[], ◌∷◌}
use lib.ListN.{drop}
use Rattle.varint.specs.Varint.{narrow}
use Rattle.directory.specs.Encode.{put_all}
use Rattle.writer.proofs.Puts.{Kept}
use Rattle.writer.proofs.columns.put_numbers.Given as goal

abbrev pub invariant-loop-x : goal.invariant-loop-x
invariant-loop-x l = Kept l.initial.out l.start (put_all narrow l.xs) l.out l.at (put_all narrow (drop l.x-index l.xs) ∷ [])
