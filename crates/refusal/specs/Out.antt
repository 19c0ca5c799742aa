-- What a definition answers: a value, or a refusal's number. Assumes nothing.
use Rattle.std.specs.Prelude.{ℕ, Bool, true, false}

infixl 20 ◌>>=◌
pub data Out (A : Type 0) : Type 0 where
  ok : A → Out A
  bad : ℕ → Out A

-- go on with the value, if there is one
abbrev pub ◌>>=◌ : {A B : Type 0} → Out A → (A → Out B) → Out B
◌>>=◌ (ok a) f = f a
◌>>=◌ (bad n) f = bad n

-- go on if the test passes; else the refusal
abbrev pub need : {A : Type 0} → Bool → ℕ → Out A → Out A
need true n x = x
need false n x = bad n

-- what lent memory holds afterwards: what the value says, and after a refusal what it held before
abbrev pub afterwards : {A B : Type 0} → Out A → B → (A → B) → B
afterwards (ok a) old new = new a
afterwards (bad n) old new = old
