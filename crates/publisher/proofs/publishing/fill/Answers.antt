-- `publishing::fill` meets its contract: what is done behind the root and what is done from it on make the plan's stores. Assumes nothing.
use Rattle.publisher.specs.Plan.{stores}
use Rattle.publisher.proofs.Runs.{plan_done}
use Rattle.publisher.proofs.publishing.fill.Goals as goal

pub returns : goal.returns
unfolding stores
returns c =
    (plan_done _ _ _ _ _ _ _ _ _ _ _ c.fill_behind.ensures (rw (c.bytes_of-header.ensures, c.heading.ensures, c.lengths.ensures) at c.fill_front.ensures)).leaves
