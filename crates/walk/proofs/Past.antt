-- Past a column at a place of a list, over its step: one turn, and the end. Assumes nothing.
use Prim.Native.Nat.{ℕ, suc, ◌+◌, ◌-◌, ◌≤◌, ◌<◌}
use mathlib.Core.Path.{◌≡◌}
use mathlib.Core.List.{List}
use native.Mathlib.Omega.{arith}
use Rattle.refusal.specs.Out.{Out, ok, ◌>>=◌}
use Rattle.refusal.proofs.OutLaws.{bind_assoc}
use Rattle.varint.specs.Varint.{Width}
use Rattle.walk.specs.Walk.{past, step_at}

module _ {S : Type 0} (w : Width) (step : S → ℕ → Out (ℕ × S)) (n i : ℕ) (s : S) (l : List ℕ) (p : ℕ) where
  pub turn : i < n → past w step (n - i) s l p ≡ step_at w step s l p >>= λ (s', q). past w step (n - (i + 1)) s' l q
  unfolding past step_at
  turn h = let one : n - i ≡ suc (n - (i + 1)) = omega arith in rw one (simp bind_assoc)

  pub done : n ≤ i → past w step (n - i) s l p ≡ ok p
  unfolding past
  done h = let none : n - i ≡ 0 = omega arith in rw none
