-- `building::build` meets its contract. Assumes nothing.
use mathlib.Core.Path.{refl}
use Rattle.directory.proofs.Handed.{handed}
use Rattle.writer.proofs.Finished.{accepted-ready, building-bad, building-done, building-refused}
use Rattle.writer.proofs.building.build.Goals as goal

pub returns-in_err-counts : goal.returns-in_err-counts
returns-in_err-counts c =
    let a = c.args in
    rw (handed _ _ c.from_residual.ensures.1)
    (building-bad _ _ _ _ _ _ _ c.in_err-counts.ensures _ refl a.root.now a.leaves.now)

pub finish-requires : goal.finish-requires
finish-requires c =
    let r = accepted-ready _ _ _ _ _ _ _ c.in_ok-counts.ensures c.ranges.data_length.fits in
    record { inside = r.0; accepts = r.1 }

pub returns-in_err-sizes : goal.returns-in_err-sizes
returns-in_err-sizes c =
    let a = c.args in
    rw (handed _ _ c.from_residual-in_err-sizes.ensures.1)
    (building-refused _ _ _ _ _ _ _ c.in_ok-counts.ensures a.root.now a.leaves.now _ _ _ c.in_err-sizes.ensures)

pub returns : goal.returns
returns c =
    let a = c.args in
    building-done _ _ _ _ _ _ _ c.in_ok-counts.ensures a.root.now a.leaves.now _ _ _ c.in_ok-sizes.ensures
