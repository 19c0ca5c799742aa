-- Laws of byte stores in a row. Assumes nothing.
use mathlib.Core.Path.{◌≡◌, refl, sym, ap, ◌∙◌}
use mathlib.Core.List.{List, [], ◌∷◌, ◌++◌, append_assoc}
use Prim.Native.Nat.{ℕ, zero, suc, ◌+◌, ◌-◌, ◌≤◌, ◌<◌, min}
use native.Mathlib.Nat.{add-zero, zero-add, add-suc, suc-add, zero-sub, sub-zero, suc-sub-suc, not-suc-le-zero, le_of_suc-le-suc}
use native.Mathlib.Omega.{arith}
use borrow.Rule.Slice.PartMut.{put_mid}
use lib.ListN.{length, get_or, take, drop, replicate, set, length-append, length-set, length-drop, length-take, length-replicate, replicate-append-replicate}
use lib.Seq.{take-nil, drop-nil, drop-drop, sets, sets-eq}
use Rattle.std.proofs.lemmas.List.{drop-replicate, drop_min, take-replicate, take_min}
use Rattle.publisher.specs.declared.sections.Cut.{Cut}
use Rattle.publisher.specs.Cuts.{Done, past}
use Rattle.publisher.specs.Plan.{Store, upward, stored, stored_from, zeros}

-- ---- the stores from p on, of two parts

pub take-append : {A : Type 0} (n : ℕ) (xs ys : List A) → take n (xs ++ ys) ≡ take n xs ++ take (n - length xs) ys
take-append n [] ys = simp (take-nil, sub-zero)
take-append zero (x ∷ xs) ys = simp zero-sub
take-append (suc n) (x ∷ xs) ys = rw (suc-sub-suc, take-append n xs ys)

pub drop-append : {A : Type 0} (n : ℕ) (xs ys : List A) → drop n (xs ++ ys) ≡ drop n xs ++ drop (n - length xs) ys
drop-append n [] ys = simp (drop-nil, sub-zero)
drop-append zero (x ∷ xs) ys = simp zero-sub
drop-append (suc n) (x ∷ xs) ys = rw (suc-sub-suc, drop-append n xs ys)

-- the n stores from p of two parts: those of the first part, and then those of the second with what is left of p and n
pub cut : {A : Type 0} (p n : ℕ) (xs ys : List A)
    → take n (drop p (xs ++ ys)) ≡ take n (drop p xs) ++ take (n - (length xs - p)) (drop (p - length xs) ys)
cut p n xs ys = rw (drop-append, take-append, length-drop)

-- ---- stores in a row

pub stored-append : (ss ts : List Store) (d : List ℕ) → stored (ss ++ ts) d ≡ stored ts (stored ss d)
stored-append [] ts d = refl
stored-append (s ∷ ss) ts d = stored-append ss ts (set d s.place s.byte)

pub length-stored : (ss : List Store) (d : List ℕ) → length (stored ss d) ≡ length d
length-stored [] d = refl
length-stored (s ∷ ss) d = length-stored ss (set d s.place s.byte) ∙ length-set d s.place s.byte

-- the call over two parts: the first part's stores, and then the second's
pub run-cut : (p n : ℕ) (ss ts : List Store) (d : List ℕ)
    → stored_from p n (ss ++ ts) d ≡ stored_from (p - length ss) (n - (length ss - p)) ts (stored_from p n ss d)
run-cut p n ss ts d = rw (cut, stored-append)

-- two parts that were done, one after the other
pub done_both : (ss ts : List Store) (c c' c'' : Cut) (d d' d'' : List ℕ) → Done ss c d c' d' → Done ts c' d' c'' d'' → Done (ss ++ ts) c d c'' d''
unfolding past
done_both ss ts c c' c'' d d' d'' a b =
    let skips : c.skip - length ss - length ts ≡ c.skip - (length ss + length ts) = omega arith in
    let does : c.left - (length ss - c.skip) - (length ts - (c.skip - length ss)) ≡ c.left - (length ss + length ts - c.skip) = omega arith in
    record {
      stands = b.stands ∙ rw (a.stands, length-append) (cc);
      leaves = b.leaves ∙ rw (a.leaves, a.stands) (sym (run-cut c.skip c.left ss ts d));
    }

-- ---- a section

pub length-upward : (i : ℕ) (bs : List ℕ) → length (upward i bs) ≡ length bs
length-upward i [] = refl
length-upward i (b ∷ bs) = ap suc (length-upward (suc i) bs)

pub get_d-upward : (i : ℕ) (bs : List ℕ) (k : ℕ) (z : Store) → k < length bs
    → get_or (upward i bs) k z ≡ record { place = i + k; byte = get_or bs k 0 }
get_d-upward i [] k z h = absurd (not-suc-le-zero h)
get_d-upward i (b ∷ bs) zero z h = rw add-zero
get_d-upward i (b ∷ bs) (suc k) z h = get_d-upward (suc i) bs k z (le_of_suc-le-suc h) ∙ rw (suc-add, add-suc)

take-upward : (n i : ℕ) (bs : List ℕ) → take n (upward i bs) ≡ upward i (take n bs)
take-upward zero i bs = refl
take-upward (suc n) i [] = refl
take-upward (suc n) i (b ∷ bs) = ap (λ (ss : List Store). record { place = i; byte = b } ∷ ss) (take-upward n (suc i) bs)

drop-upward : (n i : ℕ) (bs : List ℕ) → drop n (upward i bs) ≡ upward (i + n) (drop n bs)
drop-upward zero i bs = rw add-zero
drop-upward (suc n) i [] = refl
drop-upward (suc n) i (b ∷ bs) = drop-upward n (suc i) bs ∙ rw (suc-add, add-suc)

pub stored-upward : (i : ℕ) (bs d : List ℕ) → stored (upward i bs) d ≡ sets d i bs
stored-upward i [] d = refl
stored-upward i (b ∷ bs) d = stored-upward (suc i) bs (set d i b)

-- of the elements from p on, the first n, or as many as there are
least : {A : Type 0} (p n : ℕ) (l : List A) → take (min n (length l - p)) (drop (min p (length l)) l) ≡ take n (drop p l)
least p n l = rw (drop_min, ← length-drop, take_min)

-- a section is done: its bytes from s to e, ys, lie in their slots
pub section_done : (i : ℕ) (bs d ys : List ℕ) (c c' : Cut) (s e : ℕ) → i + length bs ≤ length d → s ≡ min c.skip (length bs)
    → e ≡ min c.skip (length bs) + min c.left (length bs - c.skip) → ys ≡ take (e - s) (drop s bs) → c' ≡ past (length bs) c
    → Done (upward i bs) c d c' (put_mid (i + s) (i + e - (i + s)) d ys)
section_done i bs d ys c c' s e room es ee ey ec =
    let n : e - s ≡ min c.left (length bs - c.skip) = omega arith in
    let len : length ys ≡ e - s = rw ey (simp (length-take, length-drop) (omega arith)) in
    let slots : i + e - (i + s) ≡ e - s = omega arith in
    let part : take c.left (drop c.skip (upward i bs)) ≡ upward (i + s) ys =
    sym (least c.skip c.left (upward i bs)) ∙ rw (length-upward, drop-upward, take-upward, ← es, ← n, ← ey) in
    record {
      stands = rw length-upward ec;
      leaves =
          sym (ap (λ (ss : List Store). stored ss d) part ∙ stored-upward (i + s) ys d ∙ sets-eq ys d (i + s) (omega arith)
          ∙ rw (append_assoc, len, slots, ← drop-drop));
    }

-- ---- the zeros

pub length-zeros : (n : ℕ) → length (zeros n) ≡ n
unfolding zeros
length-zeros n = length-replicate {A = ℕ} n 0

pub get_d-zeros : (n k : ℕ) → ◌≡◌ {A = ℕ} (get_or (zeros n) k 0) 0
unfolding zeros
get_d-zeros zero k = refl
get_d-zeros (suc n) zero = refl
get_d-zeros (suc n) (suc k) = get_d-zeros n k

pub drop-zeros : (n m : ℕ) → drop n (zeros m) ≡ zeros (m - n)
unfolding zeros
drop-zeros n m = drop-replicate n m 0

pub zeros-append : (n m : ℕ) → zeros n ++ zeros m ≡ zeros (n + m)
unfolding zeros
zeros-append n m = replicate-append-replicate n m 0

-- the same of m zeros from the start on
pub zeros_done : (d ys : List ℕ) (c c' : Cut) (m s e : ℕ) → m ≤ length d → s ≡ min c.skip m → e ≡ min c.skip m + min c.left (m - c.skip)
    → ys ≡ replicate (length (take (e - s) (drop s d))) 0 → c' ≡ past m c → Done (upward 0 (zeros m)) c d c' (put_mid s (e - s) d ys)
unfolding zeros
zeros_done d ys c c' m s e room es ee ey ec =
    let h : e - s ≤ m - s = omega arith in
    let k : length (take (e - s) (drop s d)) ≡ e - s = simp (length-take, length-drop) (omega arith) in
    simp zero-add at (section_done 0 (zeros m) d ys c c' s e (rw (length-zeros, zero-add) room) (rw length-zeros es) (rw length-zeros ee)
    (rw (drop-replicate, take-replicate, ← k) ey) (rw length-zeros ec))
