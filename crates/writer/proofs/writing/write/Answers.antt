-- `writing::write` meets its contract. Assumes nothing.
use native.Mathlib.Omega.{arith}
use Rattle.writer.proofs.Written.{write-bad, write-ok, write-ready, write-short}
use Rattle.writer.proofs.writing.write.Goals as goal

pub returns-in_err-n : goal.returns-in_err-n
returns-in_err-n c =
    let k = write-bad _ _ _ _ _ c.args.out.now c.in_err-n.ensures in
    grind arith

pub returns-then-out-n : goal.returns-then-out-n
returns-then-out-n c =
    write-short _ _ _ _ _ c.args.out.now c.in_ok-n.ensures c.if-out-n.true

pub put_entries-requires : goal.put_entries-requires
put_entries-requires c =
    write-ready _ _ _ _ _ c.args.out.now c.in_ok-n.ensures c.if-out-n.false

pub returns : goal.returns
returns c =
    write-ok _ _ _ _ _ c.args.out.now c.in_ok-n.ensures c.if-out-n.false _ c.put_entries.ensures.held
