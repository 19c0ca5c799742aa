-- `leaves::choose` meets its contract. The loop ends because a root that does not fit has more than one pointer. Assumes nothing.
use Prim.Native.Nat.{ℕ}
use mathlib.Core.Path.{ap, subst, sym, ◌∙◌}
use native.Mathlib.Omega.{arith}
use Rattle.writer.specs.Build.{leaf_size}
use Rattle.writer.specs.Cells.{part, slots}
use Rattle.writer.specs.Cuts.{Measured}
use Rattle.writer.proofs.Growth.{first-bound}
use Rattle.writer.proofs.Plans.{chosen, grows}
use Rattle.writer.proofs.Stocks.{accepts-few}
use Rattle.writer.proofs.leaves.choose.Goals as goal

pub measure-p-requires : goal.measure-p-requires
measure-p-requires c = (omega (arith, c.first_size.ensures, first-bound c.args.stores.now.count), c.requires)

pub loop-p-init : goal.loop-p-init
loop-p-init c =
    let a = c.args in
    let es = slots a.stores.now in
    let few = accepts-few a.stores.now.count es c.requires.inside c.requires.accepts in
    let q = c.measure-p.ensures in
    let e = q.leaf ∙ c.first_size.ensures in
    let b = first-bound a.stores.now.count in
    (omega arith, omega arith, ap (λ (k : ℕ). leaf_size a.stores.now.count k (part 0 a.stores.now.count es)) e, rw (sym q.leaf) at q)

pub loop-p-preserved : goal.loop-p-preserved
loop-p-preserved c =
    let a = c.args in
    let l = c.loop-p in
    let es = slots a.stores.now in
    let few = accepts-few a.stores.now.count es c.requires.inside c.requires.accepts in
    let g = grows es a.stores.now.count c.requires.inside l.p.leaf l.p.sizes.root l.invariant.3.root (omega (arith, l.invariant.0)) c.loop-p-test.true in
    let q = c.measure-p-in-loop-p.ensures in
    (omega (arith, q.leaf, l.invariant.0), omega (arith, q.leaf), ap (λ (k : ℕ). leaf_size a.stores.now.count k (part 0 a.stores.now.count es)) q.leaf ∙ sym g.1 ∙ l.invariant.2, rw (sym q.leaf) at q)

pub loop-p-smaller : goal.loop-p-smaller
loop-p-smaller c =
    let a = c.args in
    let l = c.loop-p in
    let g = grows (slots a.stores.now) a.stores.now.count c.requires.inside l.p.leaf l.p.sizes.root l.invariant.3.root (omega (arith, l.invariant.0)) c.loop-p-test.true in
    omega (arith, c.measure-p-in-loop-p.ensures.leaf, l.invariant.0)

pub returns : goal.returns
returns c =
    let a = c.args in
    let l = c.loop-p in
    let es = slots a.stores.now in
    let e = chosen es a.stores.now.count c.requires.inside l.p.leaf l.p.sizes.root l.invariant.3.root c.loop-p-test.false in
    subst (λ (k : ℕ). Measured a.stores.now.count es k l.p) (sym e ∙ l.invariant.2) l.invariant.3
