use Rattle.std.proofs.Common.{length}
use Rattle.replay.proofs.replay.Given as goal

-- Each input ends behind where it starts.
abbrev pub decreases-loop-kind : goal.decreases-loop-kind
decreases-loop-kind g l = length l.rest
