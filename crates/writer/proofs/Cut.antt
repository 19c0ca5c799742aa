-- The leaves from a place on: one leaf more, or none left. Assumes nothing.
use Prim.Native.Nat.{ℕ, zero, suc, ◌+◌, ◌-◌, ◌*◌, ◌^◌, ◌≤◌, ◌<◌}
use mathlib.Core.Path.{◌≡◌, refl, ap, ap₂, sym, ◌∙◌}
use mathlib.Core.List.{List, [], ◌∷◌}
use native.Mathlib.Omega.{arith}
use lib.ListN.{drop, drop_of_length-le, get_or, length, length-drop, length-take, take}
use lib.Seq.{drop-drop, take_all, take-take}
use Rattle.std.specs.Int.{div_ceil}
use Rattle.varint.proofs.Cases.{by-lt}
use Rattle.directory.specs.Entries.{Entry}
use Rattle.directory.specs.Columns.{entries}
use Rattle.directory.specs.Encode.{encode}
use Rattle.directory.proofs.Round.{ids}
use Rattle.acceptance.specs.Accept.{Accepts}
use Rattle.writer.specs.Stock.{Stock}
use Rattle.writer.specs.Build.{chunks, first_id, leaves_of}
use Rattle.writer.specs.Cells.{Rising, part}
use Rattle.writer.specs.Cuts.{cuts, every, first_ids, leaf_end_lem}
use Rattle.writer.proofs.Chunks.{AllLeaf, all-leaf, chunk-fuel, chunk-step, chunks-count, joined, joined-chunks}
use Rattle.writer.proofs.Lengths.{encode-size}
use Rattle.writer.proofs.Parts.{cell-more, drop-take, ids-part, ids-rise, ranged, part_length, part_none, rest-more}
use Rattle.writer.proofs.Pointers.{firsts-rise}
use Rattle.writer.proofs.Puts.{Kept, recut}
use Rattle.writer.proofs.Stocks.{accepts-few, accepts-ready}

module _ (i k n : ℕ) where
  module _ (h : 0 < k) (l : i < n) where
    pub end-in : (i < leaf_end_lem i k n) × (leaf_end_lem i k n ≤ n)
    unfolding leaf_end_lem
    end-in = omega arith

  pub end_low : k < n - i → i + k ≡ leaf_end_lem i k n
  unfolding leaf_end_lem
  end_low h = omega arith

  pub end-last : n - i ≤ k → i < n → n ≡ leaf_end_lem i k n
  unfolding leaf_end_lem
  end-last h l = omega arith

module _ {A : Type 0} (l : List A) (i k n : ℕ) (le : i < n) (m : n ≤ length l) where
  -- the first k of a range, and the others
  part-take : take k (part i n l) ≡ part i (leaf_end_lem i k n) l
  unfolding part
  part-take =
      by-lt k (n - i)
      (λ h. rw (drop-take i k (take n l), take-take (i + k) n l (omega arith)) (ap (λ (t : ℕ). drop i (take t l)) (end_low i k n h)))
      (λ h. take_all k (drop i (take n l)) (rw (length-drop, length-take) (omega arith)) ∙ ap (λ (t : ℕ). drop i (take t l)) (end-last i k n h le))

  part-drop : drop k (part i n l) ≡ part (leaf_end_lem i k n) n l
  unfolding part
  part-drop =
      drop-drop k i (take n l)
      ∙ by-lt k (n - i) (λ h. ap (λ (t : ℕ). drop t (take n l)) (end_low i k n h))
      (λ h. drop_of_length-le (take n l) {i = i + k} (rw length-take (omega arith)) ∙ sym (part_none l (leaf_end_lem i k n) n (omega (arith, end-last i k n h le))))

module _ (es : List Entry) (k i n : ℕ) where
  pub cuts-none : n ≤ i → cuts k i n es ≡ []
  unfolding cuts
  cuts-none h = let z : n - i ≡ 0 = omega arith in ap (λ (f : ℕ). chunks f k (part i n es)) z

  pub cuts-more : 0 < k → i < n → n ≤ length es → cuts k i n es ≡ part i (leaf_end_lem i k n) es ∷ cuts k (leaf_end_lem i k n) n es
  unfolding cuts
  cuts-more h l m =
      let z : n - i ≡ suc (n - (i + 1)) = omega arith in
      let e = end-in i k n h l in
      let q = part_length es (leaf_end_lem i k n) n m in
      ap (λ (f : ℕ). chunks f k (part i n es)) z
      ∙ chunk-step (n - (i + 1)) k (part i n es) (rw (part_length es i n m) (omega arith))
      ∙ ap₂ {C = List (List Entry)} (λ x y. x ∷ chunks (n - (i + 1)) k y) (part-take es i k n l m) (part-drop es i k n l m)
      ∙ ap {B = List (List Entry)} (λ x. part i (leaf_end_lem i k n) es ∷ x) (chunk-fuel (n - (i + 1)) (n - leaf_end_lem i k n) k (part (leaf_end_lem i k n) n es) h (omega arith) (omega arith))

-- the last of them
pub cuts-last : (es : List Entry) (k i n : ℕ) → 0 < k → i < n → n ≤ length es → n ≤ i + k → cuts k i n es ≡ part i (leaf_end_lem i k n) es ∷ []
cuts-last es k i n h l m e =
    cuts-more es k i n h l m
    ∙ ap {B = List (List Entry)} (λ x. part i (leaf_end_lem i k n) es ∷ x) (cuts-none es k (leaf_end_lem i k n) n (omega (arith, end-last i k n (omega arith) l)))

-- all of them
module _ (es : List Entry) (k n : ℕ) (m : n ≤ length es) where
  pub cuts-all : cuts k 0 n es ≡ chunks (length (part 0 n es)) k (part 0 n es)
  unfolding cuts
  cuts-all = ap (λ (f : ℕ). chunks f k (part 0 n es)) (sym (part_length es 0 n m))

  module _ (h : 0 < k) (s : Stock (part 0 n es)) where
    pub cuts-leaf : AllLeaf (cuts k 0 n es)
    cuts-leaf = rw cuts-all (all-leaf (length (part 0 n es)) k (part 0 n es) h s)

    pub cuts-joined : joined (cuts k 0 n es) ≡ part 0 n es
    cuts-joined = ap joined cuts-all ∙ joined-chunks (length (part 0 n es)) k (part 0 n es) h (omega arith)

    pub cuts-rise : Rising 0 (first_ids (cuts k 0 n es))
    cuts-rise = firsts-rise (cuts k 0 n es) cuts-leaf (rw cuts-joined s)

-- how many leaves there are
pub cuts-count : (es : List Entry) (k n : ℕ) → 0 < k → n ≤ length es → length (cuts k 0 n es) ≡ div_ceil n k
cuts-count es k n h m =
    let l : length (part 0 n es) ≡ n = omega (arith, part_length es 0 n m) in
    ap length (cuts-all es k n m) ∙ chunks-count k (part 0 n es) h ∙ ap (λ (i : ℕ). div_ceil i k) l

-- ---- first ids

every_drop : (k s : ℕ) (xs : List ℕ) → every k s xs ≡ every k 0 (drop s xs)
every_drop k zero xs = refl
every_drop k (suc s) [] = refl
every_drop k (suc s) (x ∷ xs) = every_drop k s xs

module _ (xs : List ℕ) (k i : ℕ) (h : 0 < k) (l : i < length xs) where
  pub every_more : every k 0 (drop i xs) ≡ get_or xs i 0 ∷ every k 0 (drop (i + k) xs)
  every_more =
      let z : k ≡ suc (k - 1) = omega arith in
      let n : i + 1 + (k - 1) ≡ i + k = omega arith in
      let d : drop (k - 1) (drop (i + 1) xs) ≡ drop (i + k) xs = drop-drop (k - 1) (i + 1) xs ∙ (rw n) in
      ap (every k 0) (rest-more xs i l) ∙ ap {B = List ℕ} (λ t. get_or xs i 0 ∷ t) (every_drop k (k - 1) (drop (i + 1) xs) ∙ ap (every k 0) d)

  pub every_last : length xs ≤ i + k → every k 0 (drop i xs) ≡ get_or xs i 0 ∷ []
  every_last m = every_more ∙ ap (λ t. get_or xs i 0 ∷ every k 0 t) (drop_of_length-le xs {i = i + k} m)

lower : (a b : ℕ) (xs : List ℕ) → a ≤ b → Rising b xs → Rising a xs
lower a b [] h r = tt
lower a b (x ∷ xs) h r = let k : b ≤ x = r.0 in (omega arith, r.1)

-- of numbers that rise, every k-th rise
every-rises : (k s prev : ℕ) (xs : List ℕ) → Rising prev xs → Rising prev (every k s xs)
every-rises k s prev [] r = tt
every-rises k zero prev (x ∷ xs) r = (r.0, every-rises k (k - 1) x xs r.1)
every-rises k (suc s) prev (x ∷ xs) r = every-rises k s prev xs (lower prev x xs r.0 r.1)

ids-drop : (k : ℕ) (es : List Entry) → ids (drop k es) ≡ drop k (ids es)
ids-drop zero es = refl
ids-drop (suc k) [] = refl
ids-drop (suc k) (e ∷ es) = ids-drop k es

firsts-every : (f k : ℕ) (es : List Entry) → 0 < k → length es ≤ f → first_ids (chunks f k es) ≡ every k 0 (ids es)
firsts-every f zero es h l = absurd (omega arith)
firsts-every zero (suc k) [] h l = refl
firsts-every zero (suc k) (e ∷ es) h l = absurd (omega arith)
firsts-every (suc f) (suc k) [] h l = refl
firsts-every (suc f) (suc k) (e ∷ es) h l =
    let z : suc k - 1 ≡ k = omega arith in
    rw z
    (ap {B = List ℕ} (λ t. e.id ∷ t)
    (firsts-every f (suc k) (drop k es) h (rw length-drop (omega arith)) ∙ ap (every (suc k) 0) (ids-drop k es) ∙ sym (every_drop (suc k) k (ids es))))

module _ (a b c d : List ℕ) (k n : ℕ) (h : 0 < k) (m : n ≤ length (entries a b c d)) where
  -- the first ids of all leaves, from the store of ids
  pub firsts-are : first_ids (cuts k 0 n (entries a b c d)) ≡ every k 0 (part 0 n a)
  firsts-are =
      ap first_ids (cuts-all (entries a b c d) k n m)
      ∙ firsts-every (length (part 0 n (entries a b c d))) k (part 0 n (entries a b c d)) h (omega arith)
      ∙ ap (every k 0) (ids-part a b c d 0 n m)

  -- and they rise
  pub front-rise : Accepts (2 ^ 64 - 1) (part 0 n (entries a b c d)) → Rising 0 (every k 0 (part 0 n a))
  front-rise s =
      every-rises k 0 0 (part 0 n a)
      (rw (ranged 0 n a (omega arith)) at (ids-rise a b c d 0 n m (omega arith) (accepts-ready n (entries a b c d) m s 0 n (omega arith) (omega arith)).codable))

  pub firsts-rising : Accepts (2 ^ 64 - 1) (part 0 n (entries a b c d)) → Rising 0 (first_ids (cuts k 0 n (entries a b c d)))
  firsts-rising s = rw firsts-are (front-rise s)

  module _ (i : ℕ) (l : i < n) where
    -- a leaf's first id is that of the entry where it starts
    pub first-is : first_id (part i (leaf_end_lem i k n) (entries a b c d)) ≡ get_or a i 0
    first-is = let e = end-in i k n h l in ap first_id (cell-more a b c d i (leaf_end_lem i k n) (omega arith) (omega arith))

-- how many bytes a leaf takes
pub leaf-size : (es : List Entry) (k i n : ℕ) → 0 < k → i < n → n ≤ length es → Accepts (2 ^ 64 - 1) (part 0 n es)
    → (length (encode (part i (leaf_end_lem i k n) es)) ≤ 40 * (leaf_end_lem i k n - i)) × (length (encode (part i (leaf_end_lem i k n) es)) < 2 ^ 32)
leaf-size es k i n h l m s =
    let e = end-in i k n h l in
    omega (arith, encode-size (part i (leaf_end_lem i k n) es), part_length es i (leaf_end_lem i k n) (omega arith), accepts-few n es m s)

-- the next of the leaves that are still to be put
pub next-leaf : {old : List ℕ} {start : ℕ} {whole new : List ℕ} {at : ℕ} {cs ds : List (List Entry)} {c : List Entry}
    → Kept old start whole new at (leaves_of cs ∷ []) → cs ≡ c ∷ ds → Kept old start whole new at (encode c ∷ leaves_of ds ∷ [])
next-leaf k e = recut _ _ (ap leaves_of e) k
