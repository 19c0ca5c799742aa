-- `building::build_sizes` meets its contract. Assumes nothing.
use mathlib.Core.Path.{ap, ◌∙◌}
use Rattle.refusal.specs.Out.{ok}
use Rattle.writer.proofs.Finished.{accepted-ready, sizes-are}
use Rattle.writer.proofs.building.build_sizes.Goals as goal

pub plan-requires : goal.plan-requires
plan-requires c = let r = accepted-ready _ _ _ _ _ _ _ c.in_ok-accept.ensures c.ranges.data_length.fits in record { inside = r.0; accepts = r.1 }

pub returns : goal.returns
returns c = ap ok c.sizes.ensures ∙ sizes-are _ _ _ _ _ _ _ c.in_ok-accept.ensures c.plan.result c.plan.ensures
