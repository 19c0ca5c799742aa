-- `hilbert::Walk::step` meets its contract. Assumes nothing.
use Rattle.tile.proofs.Curve.{walked}
use Rattle.tile.proofs.hilbert.Walk.step.Goals as goal

pub returns-clause-same : goal.returns-clause-same
returns-clause-same c =
    let w = c.args.self in
    rw (c.pick-6.ensures, c.pick-5.ensures, c.pick-4.ensures, c.pick-3.ensures, c.rank.ensures.0, c.pick-2.ensures, c.pick.ensures)
    (walked c.args.i w.x w.y _ w.h c.power-half.ensures)
