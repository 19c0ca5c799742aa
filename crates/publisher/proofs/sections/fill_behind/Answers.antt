-- `sections::fill_behind` meets its contract: the zeros and the sections in order make the part of the plan. Assumes nothing.
use native.Mathlib.Omega.{arith}
use Rattle.publisher.proofs.Runs.{behind_done}
use Rattle.publisher.proofs.Stores.{zeros_done}
use Rattle.publisher.proofs.sections.fill_behind.Goals as goal

pub returns : goal.returns
returns c =
    behind_done _ _ _ _ _ _ _ _ _ _ _ _ _
    (zeros_done c.args.dest.now _ c.args.cut.now _ 16384 c.pass.result.start c.pass.result.end
    (omega arith) c.pass.ensures.start c.pass.ensures.end (c.fill.ensures.after (λ y p. p)) c.pass.ensures.behind)
    c.section.ensures c.section-2.ensures c.section-3.ensures
