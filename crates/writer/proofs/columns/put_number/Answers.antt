-- `columns::put_number` meets its contract: where there is room, `Cursor::write` writes. Assumes nothing.
use mathlib.Core.Path.{ap, sym, ◌∙◌}
use Rattle.refusal.proofs.OutLaws.{ok-is}
use Rattle.varint.specs.Answers.{said_written}
use Rattle.varint.proofs.Writing.{write-fits}
use Rattle.writer.proofs.Puts.{said-ok}
use Rattle.writer.proofs.columns.put_number.Goals as goal

pub unwrap-requires : goal.unwrap-requires
unwrap-requires c = let a = c.args in said-ok _ c.write.result _ (c.write.ensures.0 ∙ (write-fits a.out.now a.at a.x c.requires).0)

pub returns : goal.returns
returns c =
    let a = c.args in
    let f = write-fits a.out.now a.at a.x c.requires in
    record { past = ok-is (ap said_written (sym c.unwrap.ensures) ∙ c.write.ensures.0 ∙ f.0); held = c.write.ensures.1 ∙ f.1 }
