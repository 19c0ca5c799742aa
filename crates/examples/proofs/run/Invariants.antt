use Rattle.std.proofs.Common.{length}
use Rattle.examples.proofs.run.Given as goal

-- What is left of the list.
abbrev pub decreases-loop-example : goal.decreases-loop-example
decreases-loop-example g l = length l.list
