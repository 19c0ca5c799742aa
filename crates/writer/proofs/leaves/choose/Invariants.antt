-- `leaves::choose` meets its contract. The loop ends because a root that does not fit has more than one pointer. Assumes nothing.
use Prim.Native.Nat.{◌-◌, ◌≤◌}
use mathlib.Core.Path.{◌≡◌}
use Rattle.writer.specs.Build.{leaf_size}
use Rattle.writer.specs.Cells.{in_use, slots}
use Rattle.writer.specs.Cuts.{Measured, first_size_lem}
use Rattle.writer.proofs.leaves.choose.Given as goal

abbrev pub invariant-loop-p : goal.invariant-loop-p
invariant-loop-p l =
    let es = slots l.stores in
    (4096 ≤ l.p.leaf)
    × (l.p.leaf ≤ 33554432)
    × (leaf_size l.stores.count l.p.leaf (in_use l.stores) ≡ leaf_size l.stores.count (first_size_lem l.stores.count) (in_use l.stores))
    × Measured l.stores.count es l.p.leaf l.p

abbrev pub decreases-loop-p : goal.decreases-loop-p
decreases-loop-p l = l.stores.count - l.p.leaf
