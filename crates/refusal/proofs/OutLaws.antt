-- An answer that is a value came through every step. Assumes nothing.
use Prim.Native.Nat.{ℕ}
use mathlib.Core.Path.{◌≡◌, refl}
use mathlib.Core.Bool.{Bool, true, false}
use native.Mathlib.Omega.{arith}
use Rattle.refusal.specs.Out.{Out, ok, bad, ◌>>=◌, need}

pub bind_ok : {A B : Type 0} (x : Out A) (f : A → Out B) (y : B) → x >>= f ≡ ok y → (a : A) × (x ≡ ok a) × (f a ≡ ok y)
bind_ok (ok a) f y p = (a, refl, p)
bind_ok (bad n) f y p = let z : ◌≡◌ {A = ℕ} 0 1 = cc in absurd (omega arith)

pub need-ok : {A : Type 0} (b : Bool) (n : ℕ) (x : Out A) (y : A) → need b n x ≡ ok y → (b ≡ true) × (x ≡ ok y)
need-ok true n x y p = (refl, p)
need-ok false n x y p = let z : ◌≡◌ {A = ℕ} 0 1 = cc in absurd (omega arith)

pub ok-is : {A : Type 0} {a b : A} → ok a ≡ ok b → a ≡ b
ok-is p = cc

pub bind_assoc : {A B C : Type 0} (x : Out A) (f : A → Out B) (g : B → Out C) → x >>= f >>= g ≡ x >>= λ a. f a >>= g
bind_assoc (ok a) f g = refl
bind_assoc (bad n) f g = refl

pub need-bind : {A B : Type 0} (b : Bool) (n : ℕ) (x : Out A) (g : A → Out B) → need b n x >>= g ≡ need b n (x >>= g)
need-bind true n x g = refl
need-bind false n x g = refl

-- two continuations that agree on what can come
pub bind-cong : {A B : Type 0} (x : Out A) (f g : A → Out B) → ((a : A) → x ≡ ok a → f a ≡ g a) → x >>= f ≡ x >>= g
bind-cong (ok a) f g h = h a refl
bind-cong (bad n) f g h = refl
