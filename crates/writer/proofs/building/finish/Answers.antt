-- `building::finish` meets its contract. Assumes nothing.
use mathlib.Core.Path.{ap, ◌∙◌}
use native.Mathlib.Omega.{arith}
use Rattle.writer.specs.Cells.{in_use, slots}
use Rattle.writer.specs.declared.Sizes.{Sizes}
use Rattle.writer.proofs.Finished.{both-laid, leaves-short, root-short}
use Rattle.writer.proofs.Plans.{planned-sizes, split-is}
use Rattle.writer.proofs.Stocks.{accepts-ready}
use Rattle.writer.proofs.building.finish.Goals as goal
use Rattle.writer.proofs.building.finish.Goals.{then-root-sizes-via-then-root-sizes, then-root-sizes-via-else-root-sizes+then-leaves-sizes}

pub returns-then-root-sizes : goal.returns-then-root-sizes
returns-then-root-sizes c =
    let a = c.args in
    let s = a.stores.now in
    let z = c.sizes-sizes.ensures ∙ planned-sizes (slots s) s.count c.requires.inside c.plan-p.result c.plan-p.ensures in
    elim c.then-root-sizes.branch [
      | then-root-sizes-via-then-root-sizes w ↦ root-short (in_use s) a.root.now a.leaves.now c.sizes-sizes.result z w.if-root-sizes.true
      | then-root-sizes-via-else-root-sizes+then-leaves-sizes w ↦ leaves-short (in_use s) a.root.now a.leaves.now c.sizes-sizes.result z w.if-root-sizes.false w.if-leaves-sizes.true
    ]

pub put_entries-requires : goal.put_entries-requires
put_entries-requires c =
    let s = c.args.stores.now in
    let q = rw c.in-Root.is at c.plan-p.ensures in
    let z = ap (λ (x : Sizes). x.root) (rw c.in-Root.is at c.sizes-sizes.ensures) in
    (accepts-ready s.count (slots s) c.requires.inside c.requires.accepts 0 s.count (omega arith) (omega arith), omega (arith, q.1, z))

pub returns-in-Root : goal.returns-in-Root
returns-in-Root c =
    let a = c.args in
    let s = a.stores.now in
    let q = rw c.in-Root.is at c.plan-p.ensures in
    let z = c.sizes-sizes.ensures ∙ planned-sizes (slots s) s.count c.requires.inside c.plan-p.result c.plan-p.ensures in
    both-laid (in_use s) a.root.now a.leaves.now c.sizes-sizes.result z c.if-root-sizes.false c.if-leaves-sizes.false _ _ (rw q.0 c.put_entries.ensures.held) (rw q.0)

pub returns-in-Leaves : goal.returns-in-Leaves
returns-in-Leaves c =
    let a = c.args in
    let s = a.stores.now in
    let q = rw c.in-Leaves.is at c.plan-p.ensures in
    let z = c.sizes-sizes.ensures ∙ planned-sizes (slots s) s.count c.requires.inside c.plan-p.result c.plan-p.ensures in
    let b = split-is (slots s) s.count c.requires.inside c.in-Leaves.split.leaf q.2 in
    both-laid (in_use s) a.root.now a.leaves.now c.sizes-sizes.result z c.if-root-sizes.false c.if-leaves-sizes.false _ _ (rw b c.put_split.ensures.0) (rw b c.put_split.ensures.1)
