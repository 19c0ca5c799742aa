-- Two answers that meet a promise coincide: each answer is known by what it says. Assumes nothing.
use mathlib.Core.Path.{◌≡◌, refl}
use Rattle.std.specs.Prelude.{ℕ, Result}
use Rattle.refusal.specs.declared.Refusal.{Refusal}
use Rattle.refusal.proofs.Numbers.{one-said}
use Rattle.varint.specs.Answers.{said_u64, said_u32, said_written}
use Rattle.varint.specs.declared.Cursor.{Cursor}

pub one-u64 : (a b : Result (ℕ × Cursor) Refusal) → said_u64 a ≡ said_u64 b → a ≡ b
one-u64 = one-said (λ (n, c). (n, c.at)) (λ (n, p). (n, record { at = p })) (λ a. refl)

pub one-u32 : (a b : Result (ℕ × Cursor) Refusal) → said_u32 a ≡ said_u32 b → a ≡ b
one-u32 = one-u64

pub one_written : (a b : Result Cursor Refusal) → said_written a ≡ said_written b → a ≡ b
one_written = one-said (λ c. c.at) (λ p. record { at = p }) (λ c. refl)
