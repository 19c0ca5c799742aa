-- Store number k of the plan is what `store_at_lem` says. Assumes nothing.
-- H, R, M, T and L are the bytes of header, root, metadata, data and leaves.
use mathlib.Core.Bool.{Bool, true, false, cond}
use mathlib.Core.Path.{◌≡◌, refl, sym, ap, ap₂, ◌∙◌}
use mathlib.Core.List.{List, [], ◌∷◌, ◌++◌, map, append_assoc}
use Prim.Native.Nat.{ℕ, zero, suc, ◌+◌, ◌-◌, ◌≤◌, ◌<◌, min}
use native.Mathlib.Nat.{add-zero, add-suc, suc-add, sub-zero}
use native.Mathlib.Omega.{arith}
use borrow.Author.Tests.{ltb-true, ltb-false}
use lib.Dec.{ltb}
use lib.ListN.{length, get_or, take, drop, length-append, length-drop, get_or-append}
use lib.Seq.{drop-cons, get_or-append-add, get_or-drop, get_or-take, length-take-le}
use Rattle.publisher.specs.Plan.{Store, upward, stored, stored_from, zeros, behind, front, plan, store_at_lem, numbers}
use Rattle.publisher.proofs.Stores.{length-upward, get_d-upward, length-zeros, get_d-zeros}
use Rattle.std.proofs.lemmas.List.{take_min}
use Rattle.publisher.proofs.Demand.{length-plan}

-- sections that lie end to end are one
upward-append : (i : ℕ) (xs ys : List ℕ) → upward i xs ++ upward (i + length xs) ys ≡ upward i (xs ++ ys)
upward-append i [] ys = rw add-zero
upward-append i (x ∷ xs) ys = ap (λ (l : List Store). record { place = i; byte = x } ∷ l) (rw (add-suc, ← suc-add) (upward-append (suc i) xs ys))

-- the plan with its sections behind the zeros as one
plan-is : (H R M T L : List ℕ) → plan H R M T L
    ≡ upward 0 (zeros 16384) ++ (upward 16384 (M ++ (T ++ L)) ++ (upward 127 R ++ (upward 1 (drop 1 H) ++ upward 0 (take 1 H))))
unfolding plan behind front
plan-is H R M T L =
    rw (upward-append (16384 + length M) T L, upward-append 16384 M (T ++ L))
    (append_assoc (upward 0 (zeros 16384)) (upward 16384 (M ++ (T ++ L))) (upward 127 R ++ (upward 1 (drop 1 H) ++ upward 0 (take 1 H))))

-- the store at k of two parts, the first of which has the numbers from a to e
part : (xs ys : List Store) (a e k : ℕ) (z x y : Store) → e ≡ a + length xs → a ≤ k
    → (k < e → get_or xs (k - a) z ≡ x) → (e ≤ k → get_or ys (k - e) z ≡ y) → get_or (xs ++ ys) (k - a) z ≡ cond (ltb k e) x y
part xs ys a e k z x y len h f g = by (ltb k e) refl
  where
    by : (t : Bool) → ltb k e ≡ t → get_or (xs ++ ys) (k - a) z ≡ cond t x y
    by true p = let q : k < e = ltb-true k e p in get_or-append xs ys z (k - a) (omega arith) ∙ f q
    by false p =
        let q : e ≤ k = ltb-false k e p in
        let i : k - a ≡ length xs + (k - e) = omega arith in
        rw i (get_or-append-add xs ys (k - e) z) ∙ g q

-- the store at k of a section that starts with number a and place i
in-section : (i a k : ℕ) (bs : List ℕ) (z : Store) → a ≤ k → k < a + length bs
    → get_or (upward i bs) (k - a) z ≡ record { place = i + (k - a); byte = get_or bs (k - a) 0 }
in-section i a k bs z h j = get_d-upward i bs (k - a) z (omega arith)

-- two stores of the same place and byte
same_store : (i j b c : ℕ) → i ≡ j → b ≡ c → ◌≡◌ {A = Store} (record { place = i; byte = b }) (record { place = j; byte = c })
same_store i j b c e f = cc

module _ (H R M T L : List ℕ) (k : ℕ) (z : Store) (h : length H ≡ 127) (j : k < length (plan H R M T L)) where
  abbrev Z : List ℕ
  Z = zeros 16384

  abbrev B : List ℕ
  B = M ++ (T ++ L)

  -- where the root's stores start
  abbrev b : ℕ
  b = 16384 + length M + length T + length L

  -- where the header's start, and where its last is
  abbrev r : ℕ
  r = b + length R

  bytes-end : b ≡ 16384 + length B
  bytes-end = simp length-append (omega arith)

  last_end : k < r + 127
  last_end = let e = length-plan H R M T L h in omega arith

  in-zeros : k < 16384 → get_or (upward 0 Z) (k - 0) z ≡ record { place = k; byte = 0 }
  in-zeros p =
      in-section 0 0 k Z z (omega arith) (rw (length-zeros 16384) (omega arith))
      ∙ same_store (0 + (k - 0)) k (get_or Z (k - 0) 0) 0 (omega arith) (get_d-zeros 16384 (k - 0))

  in_bytes : 16384 ≤ k → k < b → get_or (upward 16384 B) (k - 16384) z ≡ record { place = k; byte = get_or B (k - 16384) 0 }
  in_bytes a p =
      in-section 16384 16384 k B z a (rw (sym bytes-end) p)
      ∙ same_store (16384 + (k - 16384)) k (get_or B (k - 16384) 0) (get_or B (k - 16384) 0) (omega arith) refl

  in-root : b ≤ k → k < r → get_or (upward 127 R) (k - b) z ≡ record { place = 127 + (k - b); byte = get_or R (k - b) 0 }
  in-root a p = in-section 127 b k R z a p

  in-header : r ≤ k → k < r + 126 → get_or (upward 1 (drop 1 H)) (k - r) z ≡ record { place = 1 + (k - r); byte = get_or H (1 + (k - r)) 0 }
  in-header a p =
      in-section 1 r k (drop 1 H) z a (simp length-drop (omega arith))
      ∙ same_store (1 + (k - r)) (1 + (k - r)) (get_or (drop 1 H) (k - r) 0) (get_or H (1 + (k - r)) 0) refl (get_or-drop 1 H (k - r) 0)

  in-last : r + 126 ≤ k → get_or (upward 0 (take 1 H)) (k - (r + 126)) z ≡ record { place = 0; byte = get_or H 0 0 }
  in-last a =
      let e : k - (r + 126) ≡ 0 = omega (arith, last_end) in
      rw e (get_d-upward 0 (take 1 H) 0 z (rw (length-take-le 1 H (omega arith)) (omega arith))
      ∙ same_store (0 + 0) 0 (get_or (take 1 H) 0 0) (get_or H 0 0) refl (get_or-take 1 H 0 0 (omega arith)))

  -- the plan's k-th store
  pub store_at : get_or (plan H R M T L) k z ≡ store_at_lem H R M T L k
  unfolding store_at_lem
  store_at =
      ap (λ (ss : List Store). get_or ss k z) (plan-is H R M T L)
      ∙ ap (λ (i : ℕ). get_or (upward 0 Z ++ (upward 16384 B ++ (upward 127 R ++ (upward 1 (drop 1 H) ++ upward 0 (take 1 H))))) i z) (sym (sub-zero k))
      ∙ part (upward 0 Z) _ 0 16384 k z _ _ (rw (length-upward, length-zeros)) (omega arith) in-zeros (λ p₁.
      part (upward 16384 B) _ 16384 b k z _ _ (rw length-upward bytes-end) p₁ (in_bytes p₁) (λ p₂.
      part (upward 127 R) _ b r k z _ _ (rw length-upward) p₂ (in-root p₂) (λ p₃.
      part (upward 1 (drop 1 H)) (upward 0 (take 1 H)) r (r + 126) k z _ _ (simp (length-upward, length-drop) (omega arith)) p₃ (in-header p₃) in-last)))

-- the stores from number p on, one by one
pub stores-from : (H R M T L : List ℕ) (p n : ℕ) → length H ≡ 127 → p + n ≤ length (plan H R M T L)
    → take n (drop p (plan H R M T L)) ≡ map (store_at_lem H R M T L) (numbers p n)
stores-from H R M T L p zero h a = refl
stores-from H R M T L p (suc n) h a =
    let z : Store = record { place = 0; byte = 0 } in
    ap (take (suc n)) (drop-cons (plan H R M T L) p z (omega arith))
    ∙ ap₂ (λ (s : Store) (ss : List Store). s ∷ ss) (store_at H R M T L p z h (omega arith)) (stores-from H R M T L (suc p) n h (omega arith))

-- a call at p with budget n does just the stores that it is asked for: numbers p to p + n - 1, or to the last
pub just-those : (H R M T L d : List ℕ) (p n : ℕ) → length H ≡ 127 → p ≤ length (plan H R M T L)
    → stored_from p n (plan H R M T L) d ≡ stored (map (store_at_lem H R M T L) (numbers p (min n (length (plan H R M T L) - p)))) d
just-those H R M T L d p n h a =
    ap (λ (ss : List Store). stored ss d)
    (sym (take_min n (drop p (plan H R M T L)))
    ∙ ap (λ (k : ℕ). take (min n k) (drop p (plan H R M T L))) (length-drop p (plan H R M T L))
    ∙ stores-from H R M T L p (min n (length (plan H R M T L) - p)) h (omega arith))
