-- What the checks by entry decide. Assumes nothing.
use Prim.Native.Nat.{ℕ, suc, ◌+◌}
use mathlib.Core.Path.{◌≡◌, refl, ◌∙◌}
use mathlib.Core.Bool.{true}
use mathlib.Core.List.{List, [], ◌∷◌}
use borrow.Author.Tests.{le-leb, leb-true, lt-ltb, ltb-true}
use lib.Dec.{leb, ltb}
use Rattle.refusal.specs.Out.{Out, ok, need}
use Rattle.tile.specs.Answers.{max_id}
use Rattle.directory.specs.Entries.{Entry, Good, Valid, after, check, check_one}
use Rattle.refusal.proofs.OutLaws.{need-ok}

pub one-good : {A : Type 0} (lo : ℕ) (e : Entry) (x : Out A) → Good lo e → check_one lo e x ≡ x
one-good lo e x g =
    rw (lt-ltb 0 e.len g.full, le-leb e.id max_id g.top, le-leb (e.id + e.run) (suc max_id) g.end, le-leb lo e.id g.low)

-- valid entries pass
pub check-valid : {A : Type 0} (lo : ℕ) (es : List Entry) (x : Out A) → Valid lo es → check lo es x ≡ x
check-valid lo [] x v = refl
check-valid lo (e ∷ es) x v = one-good lo e (check (after e) es x) v.0 ∙ check-valid (after e) es x v.1

-- ---- and what passes is valid

pub one-sound : {A : Type 0} (lo : ℕ) (e : Entry) (x : Out A) (y : A) → check_one lo e x ≡ ok y → Good lo e × (x ≡ ok y)
one-sound lo e x y p =
    let h₁ : (ltb 0 e.len ≡ true) × (need (leb e.id max_id) 13 (need (leb (e.id + e.run) (suc max_id)) 13 (need (leb lo e.id) 14 x)) ≡ ok y) = need-ok _ _ _ y p in
    let h₂ : (leb e.id max_id ≡ true) × (need (leb (e.id + e.run) (suc max_id)) 13 (need (leb lo e.id) 14 x) ≡ ok y) = need-ok _ _ _ y h₁.1 in
    let h₃ : (leb (e.id + e.run) (suc max_id) ≡ true) × (need (leb lo e.id) 14 x ≡ ok y) = need-ok _ _ _ y h₂.1 in
    let h₄ : (leb lo e.id ≡ true) × (x ≡ ok y) = need-ok _ _ _ y h₃.1 in
    (record { full = ltb-true _ _ h₁.0; low = leb-true _ _ h₄.0; top = leb-true _ _ h₂.0; end = leb-true _ _ h₃.0 }, h₄.1)

-- entries that pass the checks are valid
pub check_sound : {A : Type 0} (lo : ℕ) (es : List Entry) (x : Out A) (y : A) → check lo es x ≡ ok y → Valid lo es × (x ≡ ok y)
check_sound lo [] x y p = (tt, p)
check_sound lo (e ∷ es) x y p = go (one-sound lo e (check (after e) es x) y p) (check_sound (after e) es x y)
  where
    go : Good lo e × (check (after e) es x ≡ ok y) → (check (after e) es x ≡ ok y → Valid (after e) es × (x ≡ ok y)) → (Good lo e × Valid (after e) es) × (x ≡ ok y)
    go h ih = ((h.0, (ih h.1).0), (ih h.1).1)
