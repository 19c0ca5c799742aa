-- Ranges: one element more, none left; and ranges of the entries that four stores hold. Assumes nothing.
use Prim.Native.Nat.{ℕ, zero, suc, ◌+◌, ◌-◌, ◌^◌, ◌≤◌, ◌<◌}
use mathlib.Core.Path.{◌≡◌, refl, ap, ap₂, sym, ◌∙◌}
use mathlib.Core.List.{List, [], ◌∷◌, map}
use mathlib.Core.Option.{Option, none, some}
use native.Mathlib.Numerals.{add-one}
use native.Mathlib.Omega.{arith}
use lib.ListN.{drop, drop_of_length-le, get_or, length, length-take, take}
use lib.Seq.{drop-cons, length-slice, slice-cons, take-nil}
use Rattle.std.specs.Prelude.{slice_range}
use Rattle.varint.specs.Varint.{narrow, put, wide}
use Rattle.directory.specs.Entries.{Entry, entry}
use Rattle.directory.specs.Columns.{entries}
use Rattle.directory.specs.Encode.{Fitting, code_of, codes, differences, encode, put_all}
use Rattle.directory.specs.Search.{shortest, stored}
use Rattle.directory.proofs.Round.{ids, lens, offs, runs}
use Rattle.writer.proofs.Puts.{bytes_of}
use Rattle.directory.specs.Answers.{row_entry}
use Rattle.directory.specs.declared.Row.{Row}
use Rattle.directory.specs.declared.Stores.{Stores}
use Rattle.writer.specs.Cells.{Below, Codable, Rising, cell_at, deltas, offset_codes, part, slots}

module _ {A : Type 0} (l : List A) (i to : ℕ) where
  pub part-more : (d : A) → i < to → to ≤ length l → part i to l ≡ get_or l i d ∷ part (i + 1) to l
  unfolding part
  part-more d h k = rw add-one (slice-cons i to l d h k)

  pub part_none : to ≤ i → part i to l ≡ []
  unfolding part
  part_none h = drop_of_length-le (take to l) {i = i} (rw length-take (omega arith))

  pub part_length : to ≤ length l → length (part i to l) ≡ to - i
  unfolding part
  part_length k = length-slice i to l k

pub drop-take : {A : Type 0} (i k : ℕ) (l : List A) → take k (drop i l) ≡ drop i (take (i + k) l)
drop-take zero k l = let z : 0 + k ≡ k = omega arith in rw z
drop-take (suc i) k [] = let z : suc i + k ≡ suc (i + k) = omega arith in rw z (take-nil k)
drop-take (suc i) k (x ∷ l) = let z : suc i + k ≡ suc (i + k) = omega arith in rw z (drop-take i k l)

-- the range of a slice
pub ranged : (i to : ℕ) (l : List ℕ) → i ≤ to → slice_range l i to ≡ part i to l
unfolding part
ranged i to l h = let e : i + (to - i) ≡ to = omega arith in rw (drop-take, e)

pub front : (n : ℕ) (l : List ℕ) → take n l ≡ part 0 n l
unfolding part
front n l = refl

-- what is left of numbers, one more of them
pub rest-more : (xs : List ℕ) (i : ℕ) → i < length xs → drop i xs ≡ get_or xs i 0 ∷ drop (i + 1) xs
rest-more xs i h = rw add-one (drop-cons xs i 0 h)

-- the codes of offsets that are left, beside the lengths
pub codes-more : (ls os : List ℕ) (p : Option ℕ) (i : ℕ) → i < length ls → i < length os
    → offset_codes p (drop i ls) (drop i os) ≡ code_of p (get_or os i 0) ∷ offset_codes (some (get_or os i 0 + get_or ls i 0)) (drop (i + 1) ls) (drop (i + 1) os)
codes-more ls os p i h k = rw (rest-more ls i h, rest-more os i k)

-- ---- the entries that four stores hold

abbrev nothing : Entry
nothing = entry 0 0 0 0

-- as many as the shortest store has
pub entries-length : (a b c d : List ℕ) → length (entries a b c d) ≡ shortest a b c d
entries-length [] b c d = omega arith
entries-length (i ∷ a) [] c d = omega arith
entries-length (i ∷ a) (r ∷ b) [] d = omega arith
entries-length (i ∷ a) (r ∷ b) (l ∷ c) [] = omega arith
entries-length (i ∷ a) (r ∷ b) (l ∷ c) (o ∷ d) = omega (arith, entries-length a b c d)

pub ruleset lengths = (entries-length)

-- the first n slots of each hold the first n entries
pub stored-part : (n : ℕ) (a b c d : List ℕ) → stored n a b c d ≡ part 0 n (entries a b c d)
unfolding part
stored-part zero a b c d = refl
stored-part (suc n) [] b c d = refl
stored-part (suc n) (i ∷ a) [] c d = refl
stored-part (suc n) (i ∷ a) (r ∷ b) [] d = refl
stored-part (suc n) (i ∷ a) (r ∷ b) (l ∷ c) [] = refl
stored-part (suc n) (i ∷ a) (r ∷ b) (l ∷ c) (o ∷ d) = ap {B = List Entry} (λ t. entry i r l o ∷ t) (stored-part n a b c d)

cell : (a b c d : List ℕ) (i : ℕ) → i < length (entries a b c d) → get_or (entries a b c d) i nothing ≡ cell_at a b c d i
cell [] b c d i h = absurd (omega arith)
cell (x ∷ a) [] c d i h = absurd (omega arith)
cell (x ∷ a) (r ∷ b) [] d i h = absurd (omega arith)
cell (x ∷ a) (r ∷ b) (l ∷ c) [] i h = absurd (omega arith)
cell (x ∷ a) (r ∷ b) (l ∷ c) (o ∷ d) zero h = refl
cell (x ∷ a) (r ∷ b) (l ∷ c) (o ∷ d) (suc i) h = cell a b c d i (omega arith)

module _ (a b c d : List ℕ) (i to : ℕ) (k : to ≤ length (entries a b c d)) where
  pub cell-more : i < to → part i to (entries a b c d) ≡ cell_at a b c d i ∷ part (i + 1) to (entries a b c d)
  cell-more h =
      part-more (entries a b c d) i to nothing h k
      ∙ ap {B = List Entry} (λ e. e ∷ part (i + 1) to (entries a b c d)) (cell a b c d i (omega arith))

-- one entry more, as it was read
pub row-more : (s : Stores) (i to : ℕ) → to ≤ length (slots s) → i < to → (r : Row) → row_entry r ≡ cell_at s.ids.now s.runs.now s.lengths.now s.offsets.now i
    → part i to (slots s) ≡ row_entry r ∷ part (i + 1) to (slots s)
row-more s i to k h r e = cell-more s.ids.now s.runs.now s.lengths.now s.offsets.now i to k h ∙ ap {B = List Entry} (λ e. e ∷ part (i + 1) to (slots s)) (sym e)

-- ---- a column of a range

field-part : (f : Entry → ℕ) (es : List Entry) (xs : List ℕ) → ((i : ℕ) → i < length es → f (get_or es i nothing) ≡ get_or xs i 0) → length es ≤ length xs
    → (n i to : ℕ) → to - i ≡ n → to ≤ length es → map f (part i to es) ≡ part i to xs
field-part f es xs same long zero i to e k = rw (part_none es i to (omega arith), part_none xs i to (omega arith))
field-part f es xs same long (suc n) i to e k =
    rw (part-more es i to nothing (omega arith) k, part-more xs i to 0 (omega arith) (omega arith))
    (ap₂ {C = List ℕ} (λ x l. x ∷ l) (same i (omega arith)) (field-part f es xs same long n (i + 1) to (omega arith) k))

pub differences-ids : (prev : ℕ) (es : List Entry) → differences prev es ≡ deltas prev (ids es)
differences-ids prev [] = refl
differences-ids prev (e ∷ es) = ap {B = List ℕ} (λ t. (e.id - prev) ∷ t) (differences-ids e.id es)

codes-columns : (p : Option ℕ) (es : List Entry) → codes p es ≡ offset_codes p (lens es) (offs es)
codes-columns p [] = refl
codes-columns p (e ∷ es) = ap {B = List ℕ} (λ t. code_of p e.off ∷ t) (codes-columns (some (e.off + e.len)) es)

pub fitting-rises : (prev : ℕ) (p : Option ℕ) (es : List Entry) → Fitting prev p es → Rising prev (ids es)
fitting-rises prev p [] f = tt
fitting-rises prev p (e ∷ es) f = (f.0.rises, fitting-rises e.id (some (e.off + e.len)) es f.1)

codable-rises : (prev : ℕ) (p : Option ℕ) (es : List Entry) → Codable prev p es → Rising prev (ids es)
codable-rises prev p [] f = tt
codable-rises prev p (e ∷ es) f = (f.0.0, codable-rises e.id (some (e.off + e.len)) es f.1)

codable-below : (prev : ℕ) (p : Option ℕ) (es : List Entry) → Codable prev p es → Below (2 ^ 64) (codes p es)
codable-below prev p [] f = tt
codable-below prev p (e ∷ es) f = (f.0.1, codable-below e.id (some (e.off + e.len)) es f.1)

-- the bytes of a range of stores: its count, then column by column
abbrev pub columns_of : List ℕ → List ℕ → List ℕ → List ℕ → ℕ → ℕ → List (List ℕ)
columns_of is rs ls os i to =
    put wide (to - i)
    ∷ put_all wide (deltas 0 (slice_range is i to))
    ∷ put_all narrow (slice_range rs i to)
    ∷ put_all narrow (slice_range ls i to)
    ∷ put_all wide (offset_codes none (slice_range ls i to) (slice_range os i to))
    ∷ []

module _ (a b c d : List ℕ) (i to : ℕ) (k : to ≤ length (entries a b c d)) where
  column : (f : Entry → ℕ) (xs : List ℕ) → ((e : Entry) (j : ℕ) → e ≡ cell_at a b c d j → f e ≡ get_or xs j 0)
      → length (entries a b c d) ≤ length xs → map f (part i to (entries a b c d)) ≡ part i to xs
  column f xs same long = field-part f (entries a b c d) xs (λ j h. same _ j (cell a b c d j h)) long (to - i) i to refl k

  pub ids-part : ids (part i to (entries a b c d)) ≡ part i to a
  ids-part = column (λ e. e.id) a (λ e j q. ap (λ (x : Entry). x.id) q) (rw entries-length (omega arith))

  pub runs-part : runs (part i to (entries a b c d)) ≡ part i to b
  runs-part = column (λ e. e.run) b (λ e j q. ap (λ (x : Entry). x.run) q) (rw entries-length (omega arith))

  pub lens-part : lens (part i to (entries a b c d)) ≡ part i to c
  lens-part = column (λ e. e.len) c (λ e j q. ap (λ (x : Entry). x.len) q) (rw entries-length (omega arith))

  pub offs-part : offs (part i to (entries a b c d)) ≡ part i to d
  offs-part = column (λ e. e.off) d (λ e j q. ap (λ (x : Entry). x.off) q) (rw entries-length (omega arith))

  module _ (o : i ≤ to) where
    pub encode-part : encode (part i to (entries a b c d)) ≡ bytes_of (columns_of a b c d i to)
    unfolding encode
    encode-part =
        rw (ranged i to a o, ranged i to b o, ranged i to c o, ranged i to d o)
        (rw (part_length (entries a b c d) i to k, differences-ids 0 _, codes-columns none _, ids-part, runs-part, lens-part, offs-part))

    module _ (f : Codable 0 none (part i to (entries a b c d))) where
      pub ids-rise : Rising 0 (slice_range a i to)
      ids-rise = rw (ranged i to a o) (rw ids-part at (codable-rises 0 none (part i to (entries a b c d)) f))

      pub codes-below : Below (2 ^ 64) (offset_codes none (slice_range c i to) (slice_range d i to))
      codes-below =
          rw (ranged i to c o, ranged i to d o)
          (rw (codes-columns none (part i to (entries a b c d)), lens-part, offs-part) at (codable-below 0 none (part i to (entries a b c d)) f))
