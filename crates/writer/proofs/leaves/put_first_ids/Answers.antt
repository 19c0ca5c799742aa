-- `leaves::put_first_ids` meets its contract. Assumes nothing.
use mathlib.Core.Path.{refl, ap}
use native.Mathlib.Omega.{arith}
use Rattle.varint.specs.Varint.{wide}
use Rattle.writer.specs.Cells.{deltas}
use Rattle.writer.proofs.Cut.{every_last, every_more}
use Rattle.writer.proofs.Puts.{last_empty, number, onward}
use Rattle.writer.proofs.leaves.put_first_ids.Goals as goal

pub loop-i-preserved : goal.loop-i-preserved
loop-i-preserved c =
    let l = c.loop-i in
    let e = every_more c.args.ids.now c.args.k l.i c.requires.0 c.loop-i-test.true in
    ((rw e at l.invariant.0).1, onward (number wide l.invariant.1 (ap (deltas l.prev) e)) c.put_number-at.ensures)

pub returns-2 : goal.returns-2
returns-2 c =
    let l = c.loop-i in
    let e = every_last c.args.ids.now c.args.k l.i c.requires.0 c.loop-i-test.true (omega arith) in
    last_empty (onward (number wide l.invariant.1 (ap (deltas l.prev) e)) c.put_number-at.ensures) refl
