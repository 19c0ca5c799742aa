-- The checks by entry and what comes after them, and one entry's checks as an answer of their own. Assumes nothing.
use Prim.Native.Nat.{ℕ}
use mathlib.Core.Path.{◌≡◌, refl, ap, ◌∙◌}
use mathlib.Core.List.{List, [], ◌∷◌}
use Rattle.refusal.specs.Out.{Out, ok, ◌>>=◌}
use Rattle.refusal.proofs.OutLaws.{bind-cong, need-bind, ok-is}
use Rattle.directory.specs.Entries.{Entry, after, check, check_one, entry}
use Rattle.directory.specs.Answers.{checked}
use Rattle.directory.proofs.Checks.{one-sound}

pub check_bind : {A B : Type 0} (lo : ℕ) (es : List Entry) (x : Out A) (f : A → Out B) → check lo es x >>= f ≡ check lo es (x >>= f)
check_bind lo [] x f = refl
check_bind lo (e ∷ es) x f = simp (need-bind, check_bind (after e) es x f)

module _ (lo : ℕ) (e : Entry) where
  check-checked : {A : Type 0} (x : Out A) → check_one lo e x ≡ checked lo e.id e.run e.len >>= λ _. x
  unfolding checked
  check-checked x = simp need-bind

  checked-after : (n : ℕ) → checked lo e.id e.run e.len ≡ ok n → after e ≡ n
  unfolding checked
  checked-after n p = ok-is (one-sound lo (entry e.id e.run e.len 0) _ n p).1

  pub check-next : {A : Type 0} (es : List Entry) (x : Out A) → check lo (e ∷ es) x ≡ checked lo e.id e.run e.len >>= λ n. check n es x
  check-next es x =
      check-checked (check (after e) es x)
      ∙ bind-cong (checked lo e.id e.run e.len) _ _ (λ n p. ap (λ (m : ℕ). check m es x) (checked-after n p))
