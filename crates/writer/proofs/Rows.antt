-- Examples, with numbers written out and not as the definitions have them: tiles 0, 1, 2 and so on, of 5 bytes each, end to end; where a
-- root only ends; how leaf sizes grow. Assumes nothing.
use Prim.Native.Nat.{ℕ, zero, suc, ◌+◌, ◌-◌, ◌*◌, ◌/◌, ◌≤◌, ◌<◌}
use mathlib.Core.Path.{◌≡◌, refl, ap, sym, ◌∙◌}
use mathlib.Core.List.{List, [], ◌∷◌, append-nil}
use mathlib.Core.Option.{Option, none, some}
use native.Mathlib.Omega.{arith}
use borrow.Author.Tests.{eq-eqb}
use lib.ListN.{drop_of_length-le, length}
use lib.Seq.{take_all}
use Rattle.varint.specs.Varint.{put, wide}
use Rattle.varint.proofs.Shortest.{put_one}
use Rattle.directory.specs.Entries.{Entry, entry}
use Rattle.directory.specs.Encode.{code_of, encode}
use Rattle.writer.specs.Build.{Directories, build, first_id, leaf_size, root_room, with_leaves}
use Rattle.writer.specs.Cells.{size_from}
use Rattle.writer.specs.Cuts.{first_size_lem}
use Rattle.writer.proofs.Chunks.{chunks-nil}
use Rattle.writer.proofs.Growth.{build-flat, build-large, build-many, grown-here, grown-more, leaf_of, one-fits, root_length_lem}
use Rattle.writer.proofs.Lengths.{encode-length, size-more, size_none, size-one}

pub row : ℕ → ℕ → List Entry
row zero i = []
row (suc n) i = entry i 1 5 (5 * i) ∷ row n (i + 1)

row_count : (n i : ℕ) → length (row n i) ≡ n
unfolding row
row_count zero i = refl
row_count (suc n) i = ap (λ (m : ℕ). suc m) (row_count n (i + 1))

-- a tile whose id and place follow on takes four bytes
tile : (prev id o : ℕ) (p : Option ℕ) → id - prev < 128 → code_of p o < 128 → size_from prev p (entry id 1 5 o ∷ []) ≡ 4
tile prev id o p h k =
    sym (size-one prev p (entry id 1 5 o) (omega arith) (omega arith))
    ∙ omega (
      arith,
      ap length (put_one wide (id - prev) h),
      ap length (put_one wide 1 (omega arith)),
      ap length (put_one wide 5 (omega arith)),
      ap length (put_one wide (code_of p o) k),
    )

row-size : (n i : ℕ) → size_from i (some (5 * (i + 1))) (row n (i + 1)) ≡ 4 * n
unfolding row
row-size zero i = size_none i (some (5 * (i + 1)))
row-size (suc n) i =
    let q : 5 * (i + 1) + 5 ≡ 5 * (i + 1 + 1) = omega arith in
    let m = rw q at (size-more i (some (5 * (i + 1))) (entry (i + 1) 1 5 (5 * (i + 1))) (row n (i + 1 + 1))) in
    let z : code_of (some (5 * (i + 1))) (5 * (i + 1)) ≡ 0 = rw (eq-eqb (5 * (i + 1)) (5 * (i + 1)) refl) in
    omega (arith, m, tile i (i + 1) (5 * (i + 1)) (some (5 * (i + 1))) (omega arith) (omega arith), row-size n (i + 1))

-- so a directory of them takes four bytes each beside its count
pub row-length : (n : ℕ) → length (encode (row (suc n) 0)) ≡ length (put wide (suc n)) + 4 * suc n
unfolding row
row-length n =
    let c = ap (λ (m : ℕ). length (put wide m)) (row_count (suc n) 0) in
    let m = size-more 0 none (entry 0 1 5 0) (row n 1) in
    omega (arith, encode-length (row (suc n) 0), c, m, tile 0 0 0 none (omega arith) (omega arith), row-size n 0)

-- one leaf has one pointer
one-leaf : (k : ℕ) (es : List Entry) → 0 < length es → length es ≤ k
    → with_leaves k es ≡ record { root = encode (entry (first_id es) 0 (length (encode es)) 0 ∷ []); leaves = encode es }
one-leaf k [] h l = absurd (omega arith)
one-leaf k (e ∷ es) h l =
    rw (take_all k (e ∷ es) l, drop_of_length-le (e ∷ es) l, chunks-nil (length es) k)
    (ap {B = Directories} (λ x. record { root = encode (entry e.id 0 (length (encode (e ∷ es))) 0 ∷ []); leaves = x }) (append-nil (encode (e ∷ es))))

size-4063 : length (encode (row 4063 0)) ≡ 16254
unfolding put
size-4063 = row-length 4062

size-4064 : length (encode (row 4064 0)) ≡ 16258
unfolding put
size-4064 = row-length 4063

-- 4,063 of them make a root only
pub root-4063 : ((build (row 4063 0)).root ≡ encode (row 4063 0)) × (length (encode (row 4063 0)) ≡ 16254)
root-4063 =
    let b = build-flat (row 4063 0) (rw row_count (omega arith)) (omega (arith, size-4063)) in (ap (λ (d : Directories). d.root) b, size-4063)

-- and one more makes one leaf
row_first : (n i : ℕ) → first_id (row (suc n) i) ≡ i
unfolding row
row_first n i = refl

leaf-4064 : leaf_of (row 4064 0) ≡ 4096
unfolding first_size_lem
leaf-4064 = rw row_count (grown-here 4064 4096 (row 4064 0) (one-fits 4096 (row 4064 0) (rw row_count (omega arith))))

one_pointer : encode (entry 0 0 16258 0 ∷ []) ≡ 1 ∷ 0 ∷ 0 ∷ 130 ∷ 127 ∷ 1 ∷ []
unfolding encode put
one_pointer = refl

pub root-4064 : build (row 4064 0) ≡ record { root = 1 ∷ 0 ∷ 0 ∷ 130 ∷ 127 ∷ 1 ∷ []; leaves = encode (row 4064 0) }
root-4064 =
    build-large (row 4064 0) (rw row_count (omega arith)) (omega (arith, size-4064))
    ∙ ap (λ (x : ℕ). with_leaves x (row 4064 0)) leaf-4064
    ∙ one-leaf 4096 (row 4064 0) (rw row_count (omega arith)) (rw row_count (omega arith))
    ∙ rw (row_first 4063 0, size-4064, one_pointer)

-- ---- where a root only ends

-- header and root are the first 16,384 bytes
pub root-behind-header : 127 + root_room ≡ 16384
root-behind-header = refl

module _ (es : List Entry) where
  pub root-only : length es ≤ 16383 → length (encode es) ≤ 16257 → build es ≡ record { root = encode es; leaves = [] }
  root-only h k = build-flat es (omega arith) k

  pub leaves-by-size : length es ≤ 16383 → 16258 ≤ length (encode es) → build es ≡ with_leaves (leaf_of es) es
  leaves-by-size h k = build-large es (omega arith) (omega arith)

  pub leaves-by-count : 16384 ≤ length es → build es ≡ with_leaves (leaf_of es) es
  leaves-by-count = build-many es

-- ---- the leaf sizes that are tried

pub first-sizes : (first_size_lem 0 ≡ 4096) × (first_size_lem 14339499 ≡ 4096) × (first_size_lem 14339500 ≡ 4097)
unfolding first_size_lem
first-sizes = (refl, refl, refl)

pub leaf-sizes : (first_size_lem 4064 ≡ 4096) × (4096 + 4096 / 5 ≡ 4915) × (4915 + 4915 / 5 ≡ 5898) × (5898 + 5898 / 5 ≡ 7077)
unfolding first_size_lem
leaf-sizes = (refl, refl, refl, refl)

-- where no root fits before them
pub fourth-size : (f : ℕ) (es : List Entry) → 16257 < root_length_lem 4096 es → 16257 < root_length_lem 4915 es → 16257 < root_length_lem 5898 es
    → leaf_size (suc (suc (suc f))) 4096 es ≡ leaf_size f 7077 es
fourth-size f es a b c = grown-more (suc (suc f)) 4096 es a ∙ grown-more (suc f) 4915 es b ∙ grown-more f 5898 es c
