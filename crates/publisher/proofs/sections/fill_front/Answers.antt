-- `sections::fill_front` meets its contract: the sections in order make the part of the plan. Assumes nothing.
use Rattle.publisher.proofs.Runs.{front_done}
use Rattle.publisher.proofs.sections.fill_front.Goals as goal

pub returns : goal.returns
returns c =
    front_done _ _ _ _ _ _ _ _ _ _ _ _ c.split_at.ensures.back c.split_at.ensures.front c.section.ensures c.section-2.ensures c.section-3.ensures
