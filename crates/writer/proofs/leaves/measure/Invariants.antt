-- `leaves::measure` meets its contract. The loop keeps that what is counted and what the leaves to come take are the whole. Assumes nothing.
use Prim.Native.Nat.{◌+◌, ◌*◌, ◌≤◌}
use mathlib.Core.Path.{◌≡◌}
use lib.ListN.{length}
use Rattle.writer.specs.Build.{leaves_of}
use Rattle.writer.specs.Cells.{Rising, slots}
use Rattle.writer.specs.Cuts.{cuts, first_ids}
use Rattle.writer.proofs.Pointers.{root_size}
use Rattle.writer.proofs.leaves.measure.Given as goal

abbrev pub invariant-loop-from : goal.invariant-loop-from
invariant-loop-from l =
    let es = slots l.stores in
    let cs = cuts l.k l.from l.stores.count es in
    let all = cuts l.k 0 l.stores.count es in
    (l.root ≤ 22 * l.from)
    × (l.leaves ≤ 40 * l.from)
    × Rising l.prev (first_ids cs)
    × (l.root + root_size l.prev cs ≡ root_size 0 all)
    × (l.leaves + length (leaves_of cs) ≡ length (leaves_of all))
    × (l.from ≤ l.stores.count)
