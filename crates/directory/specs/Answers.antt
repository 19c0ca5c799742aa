-- What the functions on directories answer, in the words of the definitions. Assumes nothing.
use Rattle.std.specs.Prelude.{ℕ, ◌+◌, List, ◌++◌, map, drop, length, replicate, Option, Some, None, Result}
use Rattle.std.proofs.Math.Option.{Option as Maybe, none, some}
use Rattle.refusal.specs.Out.{Out, ok, bad, ◌>>=◌, need}
use Rattle.refusal.specs.Said.{said}
use Rattle.refusal.specs.declared.Refusal.{Refusal}
use Rattle.tile.specs.Answers.{is_id}
use Rattle.varint.specs.declared.Cursor.{Cursor}
use Rattle.directory.specs.Entries.{Entry, after, check_one, entry}
use Rattle.directory.specs.Search.{Hit, absent, tile, leaf}
use Rattle.directory.specs.declared.DirEntry.{DirEntry}
use Rattle.directory.specs.declared.Extent.{Extent}
use Rattle.directory.specs.declared.Offset.{Offset}
use Rattle.directory.specs.declared.Row.{Row}
use Rattle.directory.specs.declared.Stores.{Stores}
use Rattle.directory.specs.declared.Found.{Found}
use Rattle.directory.specs.declared.Found.TheVariants as f

-- ---- what the types stand for

abbrev pub entry_of : DirEntry → Entry
entry_of e = record { id = e.tile_id.0; run = e.run_length; len = e.length; off = e.offset.0 }

abbrev pub row_entry : Row → Entry
row_entry r = entry r.id r.run_length r.length r.offset.0

abbrev pub found_of : Found → Hit
found_of (f.Tile e) = tile (entry_of e)
found_of (f.Leaf e) = leaf (entry_of e)
found_of f.Absent = absent

-- where contents end, or none if there are none before
abbrev pub end_after : Option Extent → Maybe ℕ
end_after None = none
end_after (Some e) = some (e.offset.0 + e.length)

-- a definition over a count and four lists, at four stores
abbrev pub over : {A : Type 0} → Stores → (ℕ → List ℕ → List ℕ → List ℕ → List ℕ → A) → A
over s f = f s.count s.ids.now s.runs.now s.lengths.now s.offsets.now

-- ---- what the functions answer

abbrev pub said_entry : Result DirEntry Refusal → Out Entry
said_entry = said entry_of

-- an entry whose id is a tile's, else 13
unfoldable pub new_entry : ℕ → ℕ → ℕ → ℕ → Out Entry
new_entry id run len off = need (is_id id) 13 (ok (entry id run len off))

abbrev pub said_found : Result Found Refusal → Out Hit
said_found = said found_of

-- how many entries, and what the rule of the end tells
abbrev pub said_read : Result (ℕ × ℕ) Refusal → Out (ℕ × ℕ)
said_read = said (λ x. x)

abbrev pub counted : Out (List Entry × ℕ) → Out (ℕ × ℕ)
counted x = x >>= λ (es, u). ok (length es, u)

-- a store afterwards: the entries' numbers, then what it held; after a refusal zeros alone
abbrev pub kept : Out (List Entry × ℕ) → (Entry → ℕ) → List ℕ → List ℕ
kept (ok (es, u)) field old = map field es ++ drop (length es) old
kept (bad n) field old = replicate (length old) 0

-- ---- what the parts answer

-- the least id that may follow
abbrev pub said_checked : Result ℕ Refusal → Out ℕ
said_checked = said (λ lo. lo)

unfoldable pub checked : ℕ → ℕ → ℕ → ℕ → Out ℕ
checked lo id run len = check_one lo (entry id run len 0) (ok (after (entry id run len 0)))

abbrev pub said_offset : Result Offset Refusal → Out ℕ
said_offset = said (λ o. o.0)

-- a column's store, and the place after the column
abbrev pub said_column : Result Cursor Refusal → List ℕ → Out (List ℕ × ℕ)
said_column r store = said (λ c. (store, c.at)) r
