-- An answer is fixed by what it says: any two answers that meet a contract coincide. Assumes nothing.
use mathlib.Core.Path.{◌≡◌, refl}
use Rattle.std.specs.Prelude.{Result}
use Rattle.refusal.proofs.Numbers.{one-said}
use Rattle.refusal.specs.declared.Refusal.{Refusal}
use Rattle.header.specs.Answers.{said_read, said_written}
use Rattle.header.specs.declared.Header.{Header}

pub one-read : (a b : Result Header Refusal) → said_read a ≡ said_read b → a ≡ b
one-read = one-said (λ h. h) (λ h. h) (λ h. refl)

pub one_written : (a b : Result (Unit {0}) Refusal) → said_written a ≡ said_written b → a ≡ b
one_written = one-said (λ u. u) (λ u. u) (λ u. refl)
