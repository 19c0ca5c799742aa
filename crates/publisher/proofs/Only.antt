-- An answer is fixed by what it says: any two answers that meet a contract coincide. Assumes nothing.
use mathlib.Core.Path.{◌≡◌, refl}
use Rattle.std.specs.Prelude.{ℕ, Result}
use Rattle.refusal.specs.declared.Refusal.{Refusal}
use Rattle.refusal.proofs.Numbers.{one-said}
use Rattle.publisher.specs.Answers.{said_published, said_total}

pub one-total : (a b : Result ℕ Refusal) → said_total a ≡ said_total b → a ≡ b
one-total = one-said (λ n. n) (λ n. n) (λ n. refl)

pub one-published : (a b : Result ℕ Refusal) → said_published a ≡ said_published b → a ≡ b
one-published = one-said (λ p. p) (λ p. p) (λ p. refl)
