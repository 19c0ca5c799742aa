-- Two answers that meet a promise coincide: each answer is known by what it says. Assumes nothing.
use Prim.Native.Nat.{ℕ}
use mathlib.Core.Path.{◌≡◌, refl, sym, ◌∙◌}
use mathlib.Core.List.{List}
use Rattle.std.specs.Prelude.{Result}
use Rattle.refusal.specs.Out.{Out}
use Rattle.refusal.specs.declared.Refusal.{Refusal}
use Rattle.refusal.proofs.Numbers.{one-said}
use Rattle.directory.specs.Entries.{Entry}
use Rattle.acceptance.specs.declared.Counts.{Counts}
use Rattle.writer.specs.Answers.{BuiltFrom, said_built, said_length, said_sized}
use Rattle.writer.specs.declared.Sizes.{Sizes}

pub one-length : (a b : Result ℕ Refusal) → said_length a ≡ said_length b → a ≡ b
one-length = one-said (λ n. n) (λ n. n) (λ n. refl)

pub one-sized : (a b : Result Sizes Refusal) → said_sized a ≡ said_sized b → a ≡ b
one-sized = one-said (λ s. s) (λ s. s) (λ s. refl)

pub one-built : (a b : Result (Sizes × Counts) Refusal) → said_built a ≡ said_built b → a ≡ b
one-built = one-said (λ b. b) (λ b. b) (λ b. refl)

-- and so with the buffers
pub one-building : {x : Out (List Entry)} {counts : List Entry → Counts} {r s : Result (Sizes × Counts) Refusal} {root leaves root₁ leaves₁ root₂ leaves₂ : List ℕ}
    → BuiltFrom x counts r root leaves root₁ leaves₁ → BuiltFrom x counts s root leaves root₂ leaves₂ → (r ≡ s) × (root₁ ≡ root₂) × (leaves₁ ≡ leaves₂)
one-building {r = r} {s = s} f g = (one-built r s (f.answer ∙ sym g.answer), f.in_root ∙ sym g.in_root, f.in_leaves ∙ sym g.in_leaves)
