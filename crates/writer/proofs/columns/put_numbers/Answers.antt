-- `columns::put_numbers` meets its contract: a u32 has the same shortest form at both widths. Assumes nothing.
use mathlib.Core.Path.{ap, ◌∙◌}
use lib.ListN.{get_or}
use Rattle.varint.specs.Varint.{narrow, put, wide}
use Rattle.writer.proofs.Lengths.{narrow-is}
use Rattle.writer.proofs.Parts.{rest-more}
use Rattle.writer.proofs.Puts.{number, onward, room}
use Rattle.writer.proofs.columns.put_numbers.Goals as goal

pub put_number-at-requires : goal.put_number-at-requires
put_number-at-requires c =
    let l = c.loop-x in
    let e = rest-more c.args.xs.now l.x-index c.loop-x-test.true in
    let w = ap (put wide) c.from.ensures ∙ narrow-is (get_or c.args.xs.now l.x-index 0) (c.type_inv.xs l.x-index).fits in
    rw w (room (number narrow l.invariant e) c.requires)

pub loop-x-preserved : goal.loop-x-preserved
loop-x-preserved c =
    let l = c.loop-x in
    let e = rest-more c.args.xs.now l.x-index c.loop-x-test.true in
    let w = ap (put wide) c.from.ensures ∙ narrow-is (get_or c.args.xs.now l.x-index 0) (c.type_inv.xs l.x-index).fits in
    onward (number narrow l.invariant e) (rw w at c.put_number-at.ensures)
