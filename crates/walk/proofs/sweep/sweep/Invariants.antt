-- `sweep::sweep` meets its contract. Assumes nothing.
use Rattle.walk.proofs.Sweeps.{Sweeping}
use Rattle.walk.proofs.sweep.sweep.Given as goal

abbrev pub invariant-loop-row : goal.invariant-loop-row
invariant-loop-row l = Sweeping l.bytes l.initial.k l.fn.target.0 l.k l.least l.kept

abbrev pub decreases-loop-row : goal.decreases-loop-row
decreases-loop-row l = l.k.left
