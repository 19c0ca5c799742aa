-- `columns::put_offsets` meets its contract. Assumes nothing.
use native.Mathlib.Omega.{arith}
use Rattle.varint.specs.Varint.{wide}
use Rattle.directory.specs.Answers.{end_after}
use Rattle.writer.proofs.Parts.{codes-more}
use Rattle.writer.proofs.Puts.{number, onward, room}
use Rattle.writer.proofs.columns.put_offsets.Goals as goal

pub unwrap-requires : goal.unwrap-requires
unwrap-requires c =
    let a = c.args in
    let l = c.loop-i in
    let m = codes-more a.lengths.now a.offsets.now (end_after l.before) l.i (omega arith) (omega arith) in
    let f = (rw m at l.invariant.0).0 in
    grind arith

pub put_number-at-requires : goal.put_number-at-requires
put_number-at-requires c =
    let a = c.args in
    let l = c.loop-i in
    let m = codes-more a.lengths.now a.offsets.now (end_after l.before) l.i (omega arith) (omega arith) in
    rw (rw c.unwrap.ensures at c.code.ensures).1 (room (number wide l.invariant.1 m) c.requires.2)

pub loop-i-preserved : goal.loop-i-preserved
loop-i-preserved c =
    let a = c.args in
    let l = c.loop-i in
    let m = codes-more a.lengths.now a.offsets.now (end_after l.before) l.i (omega arith) (omega arith) in
    let z = (rw c.unwrap.ensures at c.code.ensures).1 in
    ((rw m at l.invariant.0).1, onward (number wide l.invariant.1 m) (rw z at c.put_number-at.ensures))
