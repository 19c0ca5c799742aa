-- The columns of a directory walked side by side, row after row, with no store. Assumes nothing.
use Rattle.std.specs.Prelude.{ℕ, zero, suc, ◌-◌, cond, Result, Option, Some, None, List, [], ◌∷◌, leb, eqb, drop}
use Rattle.std.proofs.Math.Option.{Option as Maybe, none, some}
use Rattle.refusal.specs.Out.{Out, ok, ◌>>=◌, need}
use Rattle.refusal.specs.Said.{said}
use Rattle.refusal.specs.declared.Refusal.{Refusal}
use Rattle.varint.specs.Varint.{Width, wide, narrow, read_at}
use Rattle.varint.specs.declared.Cursor.{Cursor}
use Rattle.directory.specs.Entries.{Entry, check, entry, max_count}
use Rattle.directory.specs.Columns.{column_at, id_step, offset_of, plain_step}
use Rattle.directory.specs.Decode.{ended}
use Rattle.directory.specs.Search.{Hit, search}
use Rattle.directory.specs.Answers.{end_after, row_entry}
use Rattle.directory.specs.declared.Extent.{Extent}
use Rattle.directory.specs.declared.Row.{Row}
use Rattle.walk.specs.declared.cursors.Columns.{Columns}

-- ---- what the functions answer

abbrev pub said_opened : Result Columns Refusal → Out Columns
said_opened = said (λ k. k)

-- a row and the columns after it, or none at the end
abbrev pub next_of : Option (Row × Columns) → Maybe (Entry × Columns)
next_of None = none
next_of (Some (r, k)) = some (row_entry r, k)

abbrev pub said_next : Result (Option (Row × Columns)) Refusal → Out (Maybe (Entry × Columns))
said_next = said next_of

abbrev pub said_past : Result Cursor Refusal → Out ℕ
said_past = said (λ c. c.at)

-- ---- the columns before their first row

-- a step of a column at a place: what the next one needs, which of an id is the id itself, and the place after
unfoldable pub step_at : {S : Type 0} → Width → (S → ℕ → Out (ℕ × S)) → S → List ℕ → ℕ → Out (S × ℕ)
step_at w step s l at = read_at w l at >>= λ (v, p). step s v >>= λ (x, s'). ok (s', p)

-- the place after a column
unfoldable pub past : {S : Type 0} → Width → (S → ℕ → Out (ℕ × S)) → ℕ → S → List ℕ → ℕ → Out ℕ
past w step n s l at = column_at w step n s l at >>= λ (xs, p). ok p

-- columns at four places, n rows before their end; i is the id of the last row and e where its contents lie, if there was one
abbrev pub columns_at : ℕ → ℕ → ℕ → ℕ → ℕ → ℕ → Option Extent → Columns
columns_at a b c d n i e =
    record {
      ids = record { at = a };
      runs = record { at = b };
      lengths = record { at = c };
      offsets = record { at = d };
      left = n;
      last_id = i;
      before = e;
    }

-- the faults of the ids, runs and lengths come first
unfoldable pub open_in : List ℕ → Out Columns
open_in l =
    read_at wide l 0 >>= λ (n, a).
    need (leb n max_count) 19
    (past wide id_step n 0 l a >>= λ b.
    past narrow plain_step n tt l b >>= λ c. past narrow plain_step n tt l c >>= λ d. ok (columns_at a b c d n 0 None))

-- ---- the rows

-- the entry of a row, and the columns after it
unfoldable pub row_at : List ℕ → Columns → Out (Entry × Columns)
row_at l k =
    step_at wide id_step k.last_id l k.ids.at >>= λ (i, a).
    read_at narrow l k.runs.at >>= λ (r, b).
    read_at narrow l k.lengths.at >>= λ (m, c).
    read_at wide l k.offsets.at >>= λ (x, d).
    offset_of (end_after k.before) x >>= λ o.
    ok (entry i r m o, columns_at a b c d (k.left - 1) i (Some (record { offset = record { 0 = o }; length = m })))

-- the row, or none where no row is left and the rule of the end is kept
unfoldable pub next_in : List ℕ → Columns → Out (Maybe (Entry × Columns))
next_in l k = cond (eqb k.left 0) (ended l (drop k.offsets.at l) >>= λ u. ok none) (row_at l k >>= λ a. ok (some a))

-- n rows, and the place after their offset codes
abbrev pub rows_from : List ℕ → ℕ → Columns → Out (List Entry × ℕ)
rows_from l zero k = ok ([], k.offsets.at)
rows_from l (suc n) k = row_at l k >>= λ (e, k'). rows_from l n k' >>= λ (es, q). ok (e ∷ es, q)

-- all the rows that are left
unfoldable pub rows_in : List ℕ → Columns → Out (List Entry × ℕ)
rows_in l k = rows_from l k.left k

-- what is made of all of them, once the rule of the end is kept
unfoldable pub rest_in : {B : Type 0} → List ℕ → Columns → (List Entry → Out B) → Out B
rest_in l k F = rows_in l k >>= λ (es, q). ended l (drop q l) >>= λ u. F es

-- ---- a search

unfoldable pub sweep_in : List ℕ → Columns → ℕ → Out Hit
sweep_in l k t = rest_in l k (λ es. check 0 es (ok (search es t)))
