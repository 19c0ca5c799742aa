-- An array that is copied over the first slots sets them. Assumes nothing.
use Rattle.std.proofs.lemmas.Grind.{common_steps}
use Rattle.std.proofs.lemmas.List.Edits.{sets-eq}

pub ruleset copied = (common_steps, sets-eq)
