-- What halving finds is the last entry whose id is at most the target. Assumes nothing.
use Prim.Native.Nat.{ℕ, zero, suc, ◌≤◌, ◌<◌}
use mathlib.Core.Path.{◌≡◌, refl, ap, ◌∙◌}
use mathlib.Core.Bool.{true, false}
use mathlib.Core.List.{List, [], ◌∷◌, map}
use mathlib.Core.Option.{none, some}
use native.Mathlib.Omega.{arith}
use borrow.Author.Tests.{le-leb, leb-true}
use lib.Dec.{leb}
use lib.ListN.{drop, get_or, length, take}
use lib.Seq.{get_or-take, length-take-le, take_all}
use Rattle.std.specs.List.Sorted.{IsNonDecreasing, IsPartitionPoint, IsPartitionedBy}
use Rattle.std.proofs.lemmas.Bool.{leb-false}
use Rattle.std.proofs.lemmas.List.Sorted.{IsPartitionedBy-leb}
use Rattle.varint.proofs.Cases.{by-lt}
use Rattle.directory.specs.Entries.{Entry, Valid, after, entry}
use Rattle.directory.specs.Search.{last_at, shortest, stored}
use Rattle.directory.proofs.Slots.{fields, slot, stored-length}
use Rattle.search.proofs.Covers.{none_below}

-- from an entry above the target on, none counts
last-cut : (lo t k : ℕ) (es rest : List Entry) (e : Entry) → Valid lo es → drop k es ≡ e ∷ rest → t < e.id → last_at es t ≡ last_at (take k es) t
last-cut lo t zero [] rest e v p h = refl
last-cut lo t zero (x ∷ es) rest e v p h =
    let q : x ≡ e = cc in
    let g = v.0 in
    none_below x.id t (x ∷ es) (record { full = g.full; low = omega arith; top = g.top; end = g.end }, v.1) (rw q h)
last-cut lo t (suc k) [] rest e v p h = refl
last-cut lo t (suc k) (x ∷ es) rest e v p h = rw (last-cut (after x) t k es rest e v.1 p h)

-- an entry at most the target counts before those that precede it
last_taken : (t k : ℕ) (es rest : List Entry) (e : Entry) → drop k es ≡ e ∷ rest → e.id ≤ t → last_at (take (suc k) es) t ≡ some e
last_taken t zero [] rest e p h = let z : ◌≡◌ {A = ℕ} 0 1 = cc in absurd (omega arith)
last_taken t zero (x ∷ es) rest e p h = let q : x ≡ e = cc in rw q (rw (le-leb e.id t h))
last_taken t (suc k) [] rest e p h = let z : ◌≡◌ {A = ℕ} 0 1 = cc in absurd (omega arith)
last_taken t (suc k) (x ∷ es) rest e p h = rw (last_taken t k es rest e p h)

-- ---- entries that pass the checks, in stores

-- ids rise
low_id : (lo : ℕ) (es : List Entry) → Valid lo es → (j d : ℕ) → j < length (map (λ (e : Entry). e.id) es) → lo ≤ get_or (map (λ (e : Entry). e.id) es) j d
low_id lo [] v j d h = absurd (omega arith)
low_id lo (e ∷ es) v zero d h = v.0.low
low_id lo (e ∷ es) v (suc j) d h = let low : lo ≤ e.id = v.0.low in omega (arith, low_id (after e) es v.1 j d (omega arith))

rising : (lo : ℕ) (es : List Entry) → Valid lo es → IsNonDecreasing (map (λ (e : Entry). e.id) es)
rising lo [] v i j d le h = absurd (omega arith)
rising lo (e ∷ es) v zero zero d le h = omega arith
rising lo (e ∷ es) v zero (suc j) d le h = omega (arith, low_id (after e) es v.1 j d (omega arith))
rising lo (e ∷ es) v (suc i) zero d le h = absurd (omega arith)
rising lo (e ∷ es) v (suc i) (suc j) d le h = rising (after e) es v.1 i j d (omega arith) (omega arith)

module _ (n : ℕ) (a b l o : List ℕ) (t : ℕ) (fits : n ≤ shortest a b l o) (v : Valid 0 (stored n a b l o)) where
  -- so they can be halved
  pub parted : IsPartitionedBy (λ id. leb id t) (take n a)
  parted = rw (fields n a b l o fits).ids at (IsPartitionedBy-leb (λ x. x) _ t (rising 0 (stored n a b l o) v))

  size : length (take n a) ≡ n
  size = length-take-le n a (omega arith)

  module _ (k : ℕ) (w : IsPartitionPoint (λ id. leb id t ≡ true) (λ id. leb id t ≡ false) (take n a) k) where
    above : k < n → t < get_or a k 0
    above m = rw (get_or-take n a k 0 m) at (leb-false _ t (w.1 k 0 (omega arith) (omega (arith, size))))

    up_to : last_at (stored n a b l o) t ≡ last_at (take k (stored n a b l o)) t
    up_to =
        by-lt k n
        (λ m. last-cut 0 t k (stored n a b l o) _ (entry (get_or a k 0) (get_or b k 0) (get_or l k 0) (get_or o k 0)) v (slot n a b l o fits k m) (above m))
        (λ m. rw (take_all k (stored n a b l o) (rw (stored-length n a b l o fits) m)))

    pub last_none : k ≡ 0 → last_at (stored n a b l o) t ≡ none
    last_none z = rw (up_to, z)

    module _ (i : ℕ) (p : k ≡ suc i) (m : k ≤ length (take n a)) where
      pub below : get_or a i 0 ≤ t
      below = rw (get_or-take n a i 0 (omega (arith, size))) at (leb-true _ t (w.0 i 0 (omega arith) (omega arith)))

      pub last_some : last_at (stored n a b l o) t ≡ some (entry (get_or a i 0) (get_or b i 0) (get_or l i 0) (get_or o i 0))
      last_some =
          up_to
          ∙ ap (λ (j : ℕ). last_at (take j (stored n a b l o)) t) p
          ∙ last_taken t i (stored n a b l o) _ _ (slot n a b l o fits i (omega (arith, size))) below
