-- The leaf size grows until the root fits; it does once there is one pointer, so it ends, and the root that is built fits. Assumes nothing.
use Prim.Native.Nat.{ℕ, zero, suc, ◌+◌, ◌/◌, ◌≤◌, ◌<◌}
use mathlib.Core.Path.{◌≡◌, refl, ap, sym, ◌∙◌}
use mathlib.Core.Bool.{cond}
use mathlib.Core.List.{List, [], ◌∷◌}
use native.Mathlib.Omega.{arith}
use borrow.Author.Tests.{le-leb, le-ltb, lt-leb, lt-ltb}
use lib.Dec.{leb}
use lib.ListN.{drop_of_length-le, length}
use Rattle.varint.proofs.Cases.{by-lt}
use Rattle.directory.specs.Entries.{Entry}
use Rattle.directory.specs.Encode.{encode}
use Rattle.writer.specs.Build.{build, chunks, leaf_size, pointers, root_room, with_leaves}
use Rattle.writer.specs.Cuts.{first_size_lem}
use Rattle.writer.proofs.Chunks.{chunks-nil}
use Rattle.writer.proofs.Lengths.{encode-size}

-- how long a root with leaves of a size is
abbrev pub root_length_lem : ℕ → List Entry → ℕ
root_length_lem k es = length (with_leaves k es).root

one_pointer : (k : ℕ) (es : List Entry) → length es ≤ k → length (pointers 0 (chunks (length es) k es)) ≤ 1
one_pointer k [] l = omega arith
one_pointer k (e ∷ es) l = rw (drop_of_length-le (e ∷ es) l, chunks-nil (length es) k) (omega arith)

pub one-fits : (k : ℕ) (es : List Entry) → length es ≤ k → root_length_lem k es ≤ root_room
one-fits k es l = omega (arith, one_pointer k es l, encode-size (pointers 0 (chunks (length es) k es)))

pub grown-here : (f k : ℕ) (es : List Entry) → root_length_lem k es ≤ root_room → leaf_size f k es ≡ k
grown-here zero k es h = refl
grown-here (suc f) k es h = rw (le-leb (root_length_lem k es) root_room h)

pub grown-more : (f k : ℕ) (es : List Entry) → root_room < root_length_lem k es → leaf_size (suc f) k es ≡ leaf_size f (k + k / 5) es
grown-more f k es h = rw (lt-leb (root_length_lem k es) root_room h)

-- any bound that is large enough gives the same size
grown-fuel : (f g k : ℕ) (es : List Entry) → 5 ≤ k → length es ≤ f + k → length es ≤ g + k → leaf_size f k es ≡ leaf_size g k es
grown-fuel zero g k es h p q = sym (grown-here g k es (one-fits k es (omega arith)))
grown-fuel (suc f) zero k es h p q = grown-here (suc f) k es (one-fits k es (omega arith))
grown-fuel (suc f) (suc g) k es h p q =
    ap (λ (x : ℕ). cond (leb (root_length_lem k es) root_room) k x) (grown-fuel f g (k + k / 5) es (omega arith) (omega arith) (omega arith))

-- where the root does not fit there are more entries than one leaf takes, and the size grows
pub grown-on : (k : ℕ) (es : List Entry) → 5 ≤ k → root_room < root_length_lem k es → (k < length es) × (leaf_size (length es) k es ≡ leaf_size (length es) (k + k / 5) es)
grown-on k es h s =
    let more : k < length es = by-lt k (length es) (λ l. l) (λ l. absurd (omega (arith, one-fits k es l))) in
    (more, go (length es) (omega arith) more)
  where
    go : (n : ℕ) → length es ≤ n → k < n → leaf_size n k es ≡ leaf_size n (k + k / 5) es
    go zero l m = absurd (omega arith)
    go (suc n) l m = grown-more n k es s ∙ grown-fuel n (suc n) (k + k / 5) es (omega arith) (omega arith) (omega arith)

pub size-from : (f k : ℕ) (es : List Entry) → k ≤ leaf_size f k es
size-from zero k es = omega arith
size-from (suc f) k es =
    by-lt root_room (root_length_lem k es) (λ l. rw (grown-more f k es l) (omega (arith, size-from f (k + k / 5) es))) (λ l. rw (grown-here (suc f) k es l) (omega arith))

size_fits : (f k : ℕ) (es : List Entry) → 5 ≤ k → length es ≤ f + k → root_length_lem (leaf_size f k es) es ≤ root_room
size_fits zero k es h l = one-fits k es (omega arith)
size_fits (suc f) k es h l =
    by-lt root_room (root_length_lem k es)
    (λ m. rw (grown-more f k es m) (size_fits f (k + k / 5) es (omega arith) (omega arith)))
    (λ m. rw (grown-here (suc f) k es m) m)

-- ---- which of the two shapes

pub first-bound : (n : ℕ) → (4096 ≤ first_size_lem n) × (first_size_lem n ≤ n + 4096)
unfolding first_size_lem
first-bound n = omega arith

-- the leaf size that is found for some entries
abbrev pub leaf_of : List Entry → ℕ
leaf_of es = leaf_size (length es) (first_size_lem (length es)) es

module _ (es : List Entry) where
  pub leaf-some : 4096 ≤ leaf_of es
  leaf-some = omega (arith, size-from (length es) (first_size_lem (length es)) es, first-bound (length es))

  pub build-flat : length es < 16384 → length (encode es) ≤ root_room → build es ≡ record { root = encode es; leaves = [] }
  unfolding build
  build-flat h k = rw (lt-ltb (length es) 16384 h, le-leb (length (encode es)) root_room k)

  pub build-many : 16384 ≤ length es → build es ≡ with_leaves (leaf_of es) es
  unfolding build first_size_lem
  build-many h = rw (le-ltb (length es) 16384 h)

  pub build-large : length es < 16384 → root_room < length (encode es) → build es ≡ with_leaves (leaf_of es) es
  unfolding build first_size_lem
  build-large h k = rw (lt-ltb (length es) 16384 h, lt-leb (length (encode es)) root_room k)

-- what is built is one of two: a root only, or leaves of some size and a root of pointers
pub data Shape (es : List Entry) : Type 0 where
  flat : length (encode es) ≤ root_room → build es ≡ record { root = encode es; leaves = [] } → Shape es
  leafy : build es ≡ with_leaves (leaf_of es) es → Shape es

pub shape : (es : List Entry) → Shape es
shape es =
    by-lt (length es) 16384
    (λ l. by-lt root_room (length (encode es)) (λ m. leafy (build-large es l m)) (λ m. flat m (build-flat es l m)))
    (λ l. leafy (build-many es l))

pub root-fits : (es : List Entry) → length (build es).root ≤ root_room
root-fits es = go (shape es)
  where
    go : Shape es → length (build es).root ≤ root_room
    go (flat h e) = rw e h
    go (leafy e) = rw e (size_fits (length es) (first_size_lem (length es)) es (omega (arith, first-bound (length es))) (omega arith))
