-- A directory's entries, and the checks that each must pass. Assumes nothing.
use Rattle.std.specs.Prelude.{ℕ, suc, ◌+◌, ◌≤◌, ◌<◌, max, List, [], ◌∷◌, leb, ltb}
use Rattle.refusal.specs.Out.{Out, need}
use Rattle.tile.specs.Answers.{max_id}

-- `run` tiles from `id` on share the `len` bytes at `off`; a run of 0 marks a pointer to a leaf
pub record Entry : Type 0 where
  pub id : ℕ
  pub run : ℕ
  pub len : ℕ
  pub off : ℕ

abbrev pub entry : ℕ → ℕ → ℕ → ℕ → Entry
entry i r l o = record { id = i; run = r; len = l; off = o }

-- no directory has more
abbrev pub max_count : ℕ
max_count = 16777216

-- the least id that may follow an entry
abbrev pub after : Entry → ℕ
after e = e.id + max 1 e.run

-- an entry's checks, where `lo` is the least id that may come; then what comes next.
-- 12: no bytes. 13: the id, or the last one covered, is above the largest.
-- 14: not above the entry before, or covered by it.
abbrev pub check_one : {A : Type 0} → ℕ → Entry → Out A → Out A
check_one lo e x =
    need (ltb 0 e.len) 12 (need (leb e.id max_id) 13 (need (leb (e.id + e.run) (suc max_id)) 13 (need (leb lo e.id) 14 x)))

-- entry by entry; then what comes next
abbrev pub check : {A : Type 0} → ℕ → List Entry → Out A → Out A
check lo [] x = x
check lo (e ∷ es) x = check_one lo e (check (after e) es x)

-- what the checks decide
pub record Good (lo : ℕ) (e : Entry) : Type 0 where
  pub full : 0 < e.len
  pub low : lo ≤ e.id
  pub top : e.id ≤ max_id
  pub end : e.id + e.run ≤ suc max_id

abbrev pub Valid : ℕ → List Entry → Type 0
Valid lo [] = Unit {0}
Valid lo (e ∷ es) = Good lo e × Valid (after e) es
