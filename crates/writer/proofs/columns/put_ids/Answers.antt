-- `columns::put_ids` meets its contract. Assumes nothing.
use mathlib.Core.Path.{ap}
use Rattle.varint.specs.Varint.{wide}
use Rattle.writer.specs.Cells.{deltas}
use Rattle.writer.proofs.Parts.{rest-more}
use Rattle.writer.proofs.Puts.{number, onward}
use Rattle.writer.proofs.columns.put_ids.Goals as goal

pub loop-id-preserved : goal.loop-id-preserved
loop-id-preserved c =
    let l = c.loop-id in
    let e = rest-more c.args.ids.now l.id-index c.loop-id-test.true in
    ((rw e at l.invariant.0).1, onward (number wide l.invariant.1 (ap (deltas l.prev) e)) c.put_number-at.ensures)
