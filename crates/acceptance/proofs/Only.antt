-- Two answers that meet a promise coincide: each answer is known by what it says. Assumes nothing.
use mathlib.Core.Path.{◌≡◌, refl}
use Rattle.std.specs.Prelude.{Result}
use Rattle.refusal.specs.declared.Refusal.{Refusal}
use Rattle.refusal.proofs.Numbers.{one-said}
use Rattle.acceptance.specs.Answers.{said_accepted}
use Rattle.acceptance.specs.declared.Counts.{Counts}

pub one-accepted : (a b : Result Counts Refusal) → said_accepted a ≡ said_accepted b → a ≡ b
one-accepted = one-said (λ c. c) (λ c. c) (λ c. refl)
