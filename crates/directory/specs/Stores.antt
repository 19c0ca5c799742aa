-- Four stores, into which a directory is read. Assumes nothing.
use Rattle.std.specs.Prelude.{ℕ, ◌≤◌, ◌≡◌, List, [], ◌∷◌, drop, Result, Ok, Err}
use Rattle.std.proofs.Math.Option.{none, some}
use Rattle.refusal.specs.Out.{Out, ok, bad, ◌>>=◌}
use Rattle.refusal.specs.Number.{number_of}
use Rattle.refusal.specs.declared.Refusal.{Refusal}
use Rattle.varint.specs.Varint.{narrow, wide}
use Rattle.directory.specs.Entries.{Entry, check}
use Rattle.directory.specs.Columns.{column_at, entries, id_step, offset_step, plain_step}
use Rattle.directory.specs.Decode.{decode}
use Rattle.directory.specs.Search.{shortest, stored}
use Rattle.directory.specs.Answers.{checked, counted, kept, said_read}

-- the directory that the bytes hold, where the shortest store has room for it
abbrev pub reading : List ℕ → List ℕ → List ℕ → List ℕ → List ℕ → Out (List Entry × ℕ)
reading bytes ids runs lens offs = decode (some (shortest ids runs lens offs)) bytes

-- the answer to a reading, and each store before it and after it
pub record ReadInto (D : Out (List Entry × ℕ)) (r : Result (ℕ × ℕ) Refusal) (ids ids' runs runs' lens lens' offs offs' : List ℕ) : Type 0 where
  pub answer : said_read r ≡ counted D
  pub ids-kept : ids' ≡ kept D (λ e. e.id) ids
  pub runs-kept : runs' ≡ kept D (λ e. e.run) runs
  pub lens-kept : lens' ≡ kept D (λ e. e.len) lens
  pub offs-kept : offs' ≡ kept D (λ e. e.off) offs

-- ---- what the parts do

-- n entries whose columns begin at a place of a list, checked: the entries, and the place after them
unfoldable pub entries_at : ℕ → List ℕ → ℕ → Out (List Entry × ℕ)
entries_at n l at =
    column_at wide id_step n 0 l at >>= λ (ids, p₁).
    column_at narrow plain_step n tt l p₁ >>= λ (runs, p₂).
    column_at narrow plain_step n tt l p₂ >>= λ (lens, p₃).
    column_at wide offset_step n (none, lens) l p₃ >>= λ (offs, p₄). check 0 (entries ids runs lens offs) (ok (entries ids runs lens offs, p₄))

-- entry by entry; the least id that may follow them all
abbrev pub checked_all : ℕ → List Entry → Out ℕ
checked_all lo [] = ok lo
checked_all lo (e ∷ es) = checked lo e.id e.run e.len >>= λ next. checked_all next es

-- a success: the first n slots are the directory, and the others as they were;
-- of a refusal the stores are not yet cleared
abbrev pub Filling : Result (ℕ × ℕ) Refusal → Out (List Entry × ℕ) → (ids ids' runs runs' lens lens' offs offs' : List ℕ) → Type 0
Filling (Ok (n, u)) D ids ids' runs runs' lens lens' offs offs' =
    (n ≤ shortest ids runs lens offs)
    × (D ≡ ok (stored n ids' runs' lens' offs', u))
    × (drop n ids' ≡ drop n ids)
    × (drop n runs' ≡ drop n runs)
    × (drop n lens' ≡ drop n lens)
    × (drop n offs' ≡ drop n offs)
Filling (Err r) D ids ids' runs runs' lens lens' offs offs' = D ≡ bad (number_of r)
