-- `sections::section` meets its contract. Assumes nothing.
use Rattle.publisher.proofs.Stores.{section_done}
use Rattle.publisher.proofs.sections.section.Goals as goal

pub returns : goal.returns
returns c =
    section_done c.args.place c.args.src.now c.args.dest.now _ c.args.cut.now _ c.pass-part.result.start c.pass-part.result.end
    c.requires c.pass-part.ensures.start c.pass-part.ensures.end c.copy_up.ensures c.pass-part.ensures.behind
