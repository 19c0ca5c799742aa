-- `building::plan` meets its contract. Assumes nothing.
use native.Mathlib.Omega.{arith}
use Rattle.writer.specs.Cells.{slots}
use Rattle.writer.proofs.Plans.{plan-flat, plan-split}
use Rattle.writer.proofs.Stocks.{accepts-ready}
use Rattle.writer.proofs.building.plan.Goals as goal

pub sized-n-requires : goal.sized-n-requires
sized-n-requires c = let s = c.args.stores.now in accepts-ready s.count (slots s) c.requires.inside c.requires.accepts 0 s.count (omega arith) (omega arith)

pub returns-then-n-le-MAX_ROOT : goal.returns-then-n-le-MAX_ROOT
returns-then-n-le-MAX_ROOT c =
    let s = c.args.stores.now in
    plan-flat (slots s) s.count c.requires.inside c.if-stores-lt16384.true c.sized-n.result c.sized-n.ensures c.if-n-le-MAX_ROOT.true

pub returns : goal.returns
returns c = let s = c.args.stores.now in plan-split (slots s) s.count c.requires.inside c.choose.result c.choose.ensures (grind arith)
