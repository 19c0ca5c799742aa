-- Ranges of entries and their bytes: what the contracts of the private functions cite. Assumes nothing.
use Rattle.std.specs.Prelude.{ℕ, ◌+◌, ◌-◌, ◌^◌, ◌≤◌, ◌<◌, ◌≡◌, List, [], ◌∷◌, get_or, map, length}
use Rattle.std.proofs.Math.Option.{Option, none, some}
use Rattle.std.proofs.lemmas.List.Edits.{sets}
use Rattle.std.proofs.Math.Seq.{slice}
use Rattle.refusal.specs.Out.{Out, ok}
use Rattle.varint.specs.Varint.{narrow, wide}
use Rattle.directory.specs.Entries.{Entry, after, entry, max_count}
use Rattle.directory.specs.Columns.{entries}
use Rattle.directory.specs.Encode.{code_of, codes, differences, put_all}
use Rattle.directory.specs.declared.Stores.{Stores}
use Rattle.writer.specs.Write.{check_coded_lem}

-- the elements from one place up to another
unfoldable pub part : {A : Type 0} → ℕ → ℕ → List A → List A
part from to l = slice from to l

-- ---- stores

-- the entries in all slots of four stores
abbrev pub slots : Stores → List Entry
slots s = entries s.ids.now s.runs.now s.lengths.now s.offsets.now

-- the entries that count
abbrev pub in_use : Stores → List Entry
in_use s = part 0 s.count (slots s)

-- the entry in a slot
abbrev pub cell_at : List ℕ → List ℕ → List ℕ → List ℕ → ℕ → Entry
cell_at a b c d i = entry (get_or a i 0) (get_or b i 0) (get_or c i 0) (get_or d i 0)

-- ---- what is written

-- bytes put at a place of a buffer, and the place after them
pub record Wrote (old : List ℕ) (at : ℕ) (bytes new : List ℕ) (next : ℕ) : Type 0 where
  pub past : next ≡ at + length bytes
  pub held : new ≡ sets old at bytes

-- each number's difference from the one before
abbrev pub deltas : ℕ → List ℕ → List ℕ
deltas prev [] = []
deltas prev (x ∷ xs) = (x - prev) ∷ deltas x xs

-- no number is below the one before
abbrev pub Rising : ℕ → List ℕ → Type 0
Rising prev [] = Unit {0}
Rising prev (x ∷ xs) = (prev ≤ x) × Rising x xs

-- the codes of offsets that stand beside lengths
abbrev pub offset_codes : Option ℕ → List ℕ → List ℕ → List ℕ
offset_codes p [] os = []
offset_codes p (l ∷ ls) [] = []
offset_codes p (l ∷ ls) (o ∷ os) = code_of p o ∷ offset_codes (some (o + l)) ls os

abbrev pub Below : ℕ → List ℕ → Type 0
Below m [] = Unit {0}
Below m (x ∷ xs) = (x < m) × Below m xs

-- entries that can be coded after an id and an end: no id is below the one before, and each offset's code fits in 64 bits
abbrev pub Codable : ℕ → Option ℕ → List Entry → Type 0
Codable prev p [] = Unit {0}
Codable prev p (e ∷ es) = ((prev ≤ e.id) × (code_of p e.off < 2 ^ 64)) × Codable e.id (some (e.off + e.len)) es

-- a range that can be written as a directory
pub record Ready (from to : ℕ) (es : List Entry) : Type 0 where
  pub order : from ≤ to
  pub few : to ≤ max_count
  pub inside : to ≤ length es
  pub codable : Codable 0 none (part from to es)

-- how many bytes entries take in the four columns, where an id and an end come before
unfoldable pub size_from : ℕ → Option ℕ → List Entry → ℕ
size_from prev p es =
    length (put_all wide (differences prev es))
    + (length (put_all narrow (map (λ e. e.run) es)) + (length (put_all narrow (map (λ e. e.len) es)) + length (put_all wide (codes p es))))

-- the checks of one entry: the least id that may follow
unfoldable pub coded_one : ℕ → Option ℕ → Entry → Out ℕ
coded_one lo p e = check_coded_lem lo p e (ok (after e))
