-- Root and leaves, made from sorted entries. Assumes nothing.
use Rattle.std.specs.Prelude.{ℕ, zero, suc, ◌+◌, ◌/◌, max, cond, ◌&&◌, List, [], ◌∷◌, ◌++◌, leb, ltb, length, take, drop}
use Rattle.directory.specs.Entries.{Entry, entry}
use Rattle.directory.specs.Encode.{encode}

-- ---- leaves

-- the entries cut into pieces of k; the first number bounds how many pieces there are
abbrev pub chunks : ℕ → ℕ → List Entry → List (List Entry)
chunks zero k es = []
chunks (suc f) k [] = []
chunks (suc f) k (e ∷ es) = take k (e ∷ es) ∷ chunks f k (drop k (e ∷ es))

abbrev pub leaves_of : List (List Entry) → List ℕ
leaves_of [] = []
leaves_of (c ∷ cs) = encode c ++ leaves_of cs

-- a pointer has its leaf's first id, the leaf's place and length, and a run of 0
abbrev pub first_id : List Entry → ℕ
first_id [] = 0
first_id (e ∷ es) = e.id

abbrev pub pointers : ℕ → List (List Entry) → List Entry
pointers at [] = []
pointers at (c ∷ cs) = entry (first_id c) 0 (length (encode c)) at ∷ pointers (at + length (encode c)) cs

pub record Directories : Type 0 where
  pub root : List ℕ
  pub leaves : List ℕ

abbrev pub with_leaves : ℕ → List Entry → Directories
with_leaves k es = record { root = encode (pointers 0 (chunks (length es) k es)); leaves = leaves_of (chunks (length es) k es) }

-- ---- how large a leaf is

-- what is left for the root of the first 16,384 bytes, behind the header
abbrev pub root_room : ℕ
root_room = 16257

-- the first size from k on, growing by a fifth, whose root fits; the first number bounds how many are tried
abbrev pub leaf_size : ℕ → ℕ → List Entry → ℕ
leaf_size zero k es = k
leaf_size (suc f) k es = cond (leb (length (with_leaves k es).root) root_room) k (leaf_size f (k + k / 5) es)

unfoldable pub build : List Entry → Directories
build es =
    cond (ltb (length es) 16384 && leb (length (encode es)) root_room)
    (record { root = encode es; leaves = [] })
    (with_leaves (leaf_size (length es) (max (length es / 3500) 4096) es) es)
