-- Entries cut into leaves: what the contracts of the builder's private functions cite. Assumes nothing.
use Rattle.std.specs.Prelude.{ℕ, zero, suc, ◌+◌, ◌-◌, ◌/◌, ◌<◌, max, min, ◌≡◌, List, [], ◌∷◌, length, replicate}
use Rattle.directory.specs.Entries.{Entry}
use Rattle.directory.specs.Encode.{encode}
use Rattle.writer.specs.Build.{build, chunks, first_id, leaves_of, pointers, with_leaves}
use Rattle.writer.specs.Cells.{part}
use Rattle.writer.specs.declared.Sizes.{Sizes}
use Rattle.writer.specs.declared.leaves.Split.{Split}
use Rattle.writer.specs.declared.building.Layout.{Layout}
use Rattle.writer.specs.declared.building.Layout.TheVariants as layout

-- where a leaf of at most k entries ends that starts at i
unfoldable pub leaf_end_lem : ℕ → ℕ → ℕ → ℕ
leaf_end_lem i k n = min (i + k) n

-- the leaves from entry i on
unfoldable pub cuts : ℕ → ℕ → ℕ → List Entry → List (List Entry)
cuts k i n es = chunks (n - i) k (part i n es)

-- every k-th number, after so many that are passed over
abbrev pub every : ℕ → ℕ → List ℕ → List ℕ
every k s [] = []
every k zero (x ∷ xs) = x ∷ every k (k - 1) xs
every k (suc s) (x ∷ xs) = every k s xs

-- the numbers of pointers to leaves
abbrev pub first_ids : List (List Entry) → List ℕ
first_ids [] = []
first_ids (c ∷ cs) = first_id c ∷ first_ids cs

abbrev pub leaf_lengths : List (List Entry) → List ℕ
leaf_lengths [] = []
leaf_lengths (c ∷ cs) = length (encode c) ∷ leaf_lengths cs

-- the codes of the offsets of n leaves that lie end to end
unfoldable pub leaf_codes : ℕ → List ℕ
leaf_codes zero = []
leaf_codes (suc n) = 1 ∷ replicate n 0

-- the leaf size that is tried first
unfoldable pub first_size_lem : ℕ → ℕ
first_size_lem n = max (n / 3500) 4096

-- how many leaves of a size there are, and how large the root and the leaves are
pub record Measured (n : ℕ) (es : List Entry) (k : ℕ) (p : Split) : Type 0 where
  pub leaf : p.leaf ≡ k
  pub many : p.pointers ≡ length (cuts k 0 n es)
  pub root : p.sizes.root ≡ length (encode (pointers 0 (cuts k 0 n es)))
  pub leaves : p.sizes.leaves ≡ length (leaves_of (cuts k 0 n es))

-- how large root and leaves are
abbrev pub sizes_planned : Layout → Sizes
sizes_planned (layout.Root n) = record { root = n; leaves = 0 }
sizes_planned (layout.Leaves p) = p.sizes

-- how the first n entries are built: as a root only, or as leaves of a size and a root of pointers
abbrev pub Planned : ℕ → List Entry → Layout → Type 0
Planned n es (layout.Root r) = (build (part 0 n es) ≡ record { root = encode (part 0 n es); leaves = [] }) × (r ≡ length (encode (part 0 n es)))
Planned n es (layout.Leaves p) = (0 < p.leaf) × Measured n es p.leaf p × (build (part 0 n es) ≡ with_leaves p.leaf (part 0 n es))
