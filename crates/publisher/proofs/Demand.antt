-- What stands in the destination after all stores and after some: the publisher's part of the demand on an archive that is
-- published and read. Assumes nothing.
-- H, R, M, T and L are the bytes of header, root, metadata, data and leaves, and d the destination's.
use mathlib.Core.Path.{◌≡◌, refl, sym, ap, ◌∙◌}
use mathlib.Core.List.{List, [], ◌∷◌, ◌++◌, append_assoc}
use Prim.Native.Nat.{ℕ, zero, suc, ◌+◌, ◌-◌, ◌≤◌, ◌<◌}
use native.Mathlib.Nat.{not-suc-le-zero}
use native.Mathlib.Omega.{arith}
use lib.ListN.{length, get_or, take, drop, set, length-append, length-drop, length-take, take-append-drop}
use lib.Seq.{sets-eq, take_at, drop_at, take-length, drop-append-add, length-take-le, drop-append-le, drop-drop, get_or-set_other, get_or-set_same, take-append-le}
use Rattle.header.specs.Header.{header_bytes}
use Rattle.header.proofs.ReadBack.{header-length}
use Rattle.acceptance.specs.declared.Counts.{Counts}
use Rattle.publisher.specs.declared.Settings.{Settings}
use Rattle.publisher.specs.Plan.{Store, header_for, upward, stored, zeros, behind, front, plan, image, stores}
use Rattle.publisher.specs.Publish.{total}
use Rattle.publisher.proofs.Stores.{stored-append, stored-upward, length-upward, length-zeros, drop-zeros, zeros-append}
use Rattle.publisher.proofs.Runs.{length-behind}

-- ---- how many stores there are

pub length-plan : (H R M T L : List ℕ) → length H ≡ 127 → length (plan H R M T L) ≡ total (length R) (length M) (length T) (length L)
unfolding plan front
length-plan H R M T L h = simp (length-append, length-behind, length-upward, length-drop, length-take) (omega arith)

pub length-stores : (s : Settings) (c : Counts) (R M T L : List ℕ) → length (stores s c R M T L) ≡ total (length R) (length M) (length T) (length L)
unfolding stores
length-stores s c R M T L = length-plan _ R M T L (header-length (header_for s c (length R) (length M) (length T) (length L)))

-- ---- after all

-- bytes that are laid right behind a list
lay : (i : ℕ) (P bs X : List ℕ) → length P ≡ i → length bs ≤ length X → stored (upward i bs) (P ++ X) ≡ P ++ (bs ++ drop (length bs) X)
lay i P bs X e h =
    stored-upward i bs (P ++ X)
    ∙ sets-eq bs (P ++ X) i (simp length-append (omega arith))
    ∙ rw (take_at P X i e, ← e, drop-append-add, append_assoc)

-- the zeros and the sections behind them
module _ (M T L d : List ℕ) (h : 16384 + length M + length T + length L ≤ length d) where
  abbrev Z : List ℕ
  Z = zeros 16384

  laid₁ : stored (upward 0 Z) d ≡ Z ++ drop 16384 d
  laid₁ = lay 0 [] Z d refl (rw length-zeros (omega arith)) ∙ rw length-zeros

  laid₂ : stored (upward 16384 M) (Z ++ drop 16384 d) ≡ Z ++ (M ++ drop (16384 + length M) d)
  laid₂ = lay 16384 Z M (drop 16384 d) (length-zeros 16384) (simp length-drop (omega arith)) ∙ rw drop-drop

  laid₃ : stored (upward (16384 + length M) T) (Z ++ (M ++ drop (16384 + length M) d)) ≡ Z ++ (M ++ (T ++ drop (16384 + length M + length T) d))
  laid₃ =
      rw (← append_assoc Z M (drop (16384 + length M) d))
      (lay (16384 + length M) (Z ++ M) T (drop (16384 + length M) d) (simp (length-append, length-zeros)) (simp length-drop (omega arith))
      ∙ rw (drop-drop, append_assoc Z M))

  laid₄ : stored (upward (16384 + length M + length T) L) (Z ++ (M ++ (T ++ drop (16384 + length M + length T) d)))
      ≡ Z ++ (M ++ (T ++ (L ++ drop (16384 + length M + length T + length L) d)))
  laid₄ =
      ap (stored (upward (16384 + length M + length T) L)) (sym (simp append_assoc))
      ∙ lay (16384 + length M + length T) (Z ++ M ++ T) L (drop (16384 + length M + length T) d) (simp (length-append, length-zeros)) (simp length-drop (omega arith))
      ∙ rw drop-drop (simp append_assoc)

  pub stored-behind : stored (behind M T L) d ≡ zeros 16384 ++ (M ++ (T ++ (L ++ drop (16384 + length M + length T + length L) d)))
  unfolding behind
  stored-behind = rw (stored-append, laid₁, stored-append, laid₂, stored-append, laid₃) laid₄

-- the root and the header, over zeros
module _ (H R Y : List ℕ) (h : length H ≡ 127) (k : length R ≤ 16257) where
  laid₅ : stored (upward 127 R) (zeros 16384 ++ Y) ≡ zeros 127 ++ (R ++ (zeros (16257 - length R) ++ Y))
  laid₅ =
      ap (λ (z : List ℕ). stored (upward 127 R) (z ++ Y)) (sym (zeros-append 127 16257))
      ∙ rw (append_assoc (zeros 127) (zeros 16257) Y)
      (lay 127 (zeros 127) R (zeros 16257 ++ Y) (length-zeros 127) (simp (length-append, length-zeros) (omega arith))
      ∙ rw (drop-append-le (length R) (zeros 16257) Y (simp length-zeros k), drop-zeros))

  laid₆ : (W : List ℕ) → stored (upward 1 (drop 1 H)) (zeros 127 ++ W) ≡ zeros 1 ++ (drop 1 H ++ W)
  laid₆ W =
      ap (λ (z : List ℕ). stored (upward 1 (drop 1 H)) (z ++ W)) (sym (zeros-append 1 126))
      ∙ rw (append_assoc (zeros 1) (zeros 126) W)
      (lay 1 (zeros 1) (drop 1 H) (zeros 126 ++ W) (length-zeros 1) (simp (length-drop, length-append, length-zeros) (omega arith))
      ∙ rw (drop_at (zeros 126) W (length (drop 1 H)) (simp (length-zeros, length-drop) (omega arith))))

  laid₇ : (X : List ℕ) → stored (upward 0 (take 1 H)) (zeros 1 ++ X) ≡ take 1 H ++ X
  laid₇ X =
      lay 0 [] (take 1 H) (zeros 1 ++ X) refl (simp (length-take, length-append, length-zeros) (omega arith))
      ∙ rw (drop_at (zeros 1) X (length (take 1 H)) (length-zeros 1 ∙ sym (length-take-le 1 H (omega arith))))

  pub stored-front : stored (front H R) (zeros 16384 ++ Y) ≡ H ++ (R ++ (zeros (16257 - length R) ++ Y))
  unfolding front
  stored-front =
      let W = R ++ (zeros (16257 - length R) ++ Y) in
      rw (stored-append, laid₅, stored-append, laid₆ W) (laid₇ (drop 1 H ++ W) ∙ sym (append_assoc (take 1 H) (drop 1 H) W) ∙ rw (take-append-drop 1 H))

-- after all stores the archive stands there, and behind it what lay there before
pub after-all : (H R M T L d : List ℕ) → length H ≡ 127 → length R ≤ 16257 → 16384 + length M + length T + length L ≤ length d
    → stored (take (length (plan H R M T L)) (plan H R M T L)) d ≡ image H R M T L ++ drop (16384 + length M + length T + length L) d
unfolding plan image
after-all H R M T L d h k r = rw (take-length, stored-append, stored-behind M T L d r, stored-front H R _ h k) (sym (simp append_assoc))

-- ---- after some, and not all

-- stores of which none is at place 0
Off : List Store → Type 0
Off [] = Unit
Off (s ∷ ss) = (0 < s.place) × Off ss

off-upward : (i : ℕ) (bs : List ℕ) → 0 < i → Off (upward i bs)
unfolding Off
off-upward i [] h = tt
off-upward i (b ∷ bs) h = (h, off-upward (suc i) bs (omega arith))

off-append : (ss ts : List Store) → Off ss → Off ts → Off (ss ++ ts)
unfolding Off
off-append [] ts a b = b
off-append (s ∷ ss) ts a b = (a.0, off-append ss ts a.1 b)

off-take : (n : ℕ) (ss : List Store) → Off ss → Off (take n ss)
unfolding Off
off-take zero ss a = tt
off-take (suc n) [] a = tt
off-take (suc n) (s ∷ ss) a = (a.0, off-take n ss a.1)

kept-first : (ss : List Store) (d : List ℕ) (z : ℕ) → Off ss → get_or (stored ss d) 0 z ≡ get_or d 0 z
unfolding Off
kept-first [] d z a = refl
kept-first (s ∷ ss) d z a =
    kept-first ss (set d s.place s.byte) z a.1
    ∙ get_or-set_other d s.place 0 s.byte z (λ e. omega arith)

-- the plan between its first store and its last
early : List ℕ → List ℕ → List ℕ → List ℕ → List ℕ → List Store
early H R M T L =
    upward 1 (zeros 16383)
    ++ (upward 16384 M
    ++ (upward (16384 + length M) T
    ++ (upward (16384 + length M + length T) L
    ++ (upward 127 R ++ upward 1 (drop 1 H)))))

off-early : (H R M T L : List ℕ) → Off (early H R M T L)
unfolding early
off-early H R M T L =
    off-append _ _ (off-upward 1 (zeros 16383) (omega arith))
    (off-append _ _ (off-upward 16384 M (omega arith))
    (off-append _ _ (off-upward (16384 + length M) T (omega arith))
    (off-append _ _ (off-upward (16384 + length M + length T) L (omega arith))
    (off-append _ _ (off-upward 127 R (omega arith)) (off-upward 1 (drop 1 H) (omega arith))))))

plan-parts : (H R M T L : List ℕ) → plan H R M T L ≡ record { place = 0; byte = 0 } ∷ early H R M T L ++ upward 0 (take 1 H)
unfolding plan behind front early zeros
plan-parts H R M T L = simp append_assoc

-- after the first store and before the last byte 0 is 0, so that no reader takes what stands there for an archive
pub after-some : (H R M T L d : List ℕ) (p z : ℕ) → length H ≡ 127 → 0 < length d → 0 < p → p < length (plan H R M T L)
    → get_or (stored (take p (plan H R M T L)) d) 0 z ≡ 0
after-some H R M T L d zero z h n a b = absurd (not-suc-le-zero a)
after-some H R M T L d (suc q) z h n a b =
    let E = early H R M T L in
    let len : length (plan H R M T L) ≡ suc (length E) + 1 =
    ap length (plan-parts H R M T L) ∙ simp (length-append, length-upward) (ap (λ (k : ℕ). suc (length E) + k) (length-take-le 1 H (omega arith))) in
    let within : q ≤ length E = omega arith in
    rw (plan-parts H R M T L, take-append-le q E (upward 0 (take 1 H)) within)
    (kept-first (take q E) (set d 0 0) z (off-take q E (off-early H R M T L)) ∙ get_or-set_same d 0 0 z n)

-- ---- the same of a publication's stores

pub all-stores : (s : Settings) (c : Counts) (R M T L d : List ℕ) → length R ≤ 16257 → 16384 + length M + length T + length L ≤ length d
    → stored (take (length (stores s c R M T L)) (stores s c R M T L)) d
    ≡ image (header_bytes (header_for s c (length R) (length M) (length T) (length L))) R M T L ++ drop (16384 + length M + length T + length L) d
unfolding stores
all-stores s c R M T L d = after-all _ R M T L d (header-length (header_for s c (length R) (length M) (length T) (length L)))

pub some-stores : (s : Settings) (c : Counts) (R M T L d : List ℕ) (p z : ℕ) → 0 < length d → 0 < p → p < length (stores s c R M T L)
    → get_or (stored (take p (stores s c R M T L)) d) 0 z ≡ 0
unfolding stores
some-stores s c R M T L d p z = after-some _ R M T L d p z (header-length (header_for s c (length R) (length M) (length T) (length L)))
