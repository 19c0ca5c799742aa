-- The search over bytes in one pass over the rows: what a row does to the checks and to the search. Assumes nothing.
use Prim.Native.Nat.{ℕ, ◌≤◌, ◌<◌}
use mathlib.Core.Path.{◌≡◌, refl, ap, sym, ◌∙◌}
use mathlib.Core.Bool.{Bool, true, false, cond}
use mathlib.Core.List.{List}
use mathlib.Core.Option.{Option as Maybe, none, some}
use native.Mathlib.Omega.{arith}
use borrow.Author.Tests.{le-leb, lt-leb}
use lib.Dec.{leb}
use Rattle.std.specs.Prelude.{Option, Some, None, IfSome, Result, Ok, Err}
use Rattle.refusal.specs.Number.{number_of}
use Rattle.refusal.specs.declared.Refusal.{Refusal}
use Rattle.refusal.specs.Out.{Out, ok, bad, ◌>>=◌, need}
use Rattle.tile.specs.Answers.{is_id, max_id}
use Rattle.directory.specs.Entries.{Entry, check}
use Rattle.directory.specs.Search.{Hit, absent, find_in, hit, last_at, later, search}
use Rattle.directory.specs.Answers.{checked, row_entry, said_checked}
use Rattle.directory.specs.declared.Row.{Row}
use Rattle.search.specs.Answers.{answering}
use Rattle.search.proofs.Hits.{answered}
use Rattle.walk.specs.Walk.{next_in, open_in, rest_in, sweep_in}
use Rattle.walk.specs.declared.cursors.Columns.{Columns}
use Rattle.walk.proofs.ByEntry.{check-next}
use Rattle.walk.proofs.Rows.{decode-rows}
use Rattle.walk.proofs.Walks.{next_less, rest-bad, rest_end, rest-row, rest-same}

-- ---- the search over bytes: the target, then the columns, then their rows

pub find_rows : (l : List ℕ) (t : ℕ) → find_in l t ≡ need (is_id t) 7 (open_in l >>= λ k. sweep_in l k t)
unfolding find_in sweep_in
find_rows l t = ap (λ (z : Out Hit). need (is_id t) 7 z) (decode-rows l (λ es. ok (search es t)))

-- ---- the checks and the search in one pass

later-none : (x : Maybe Entry) → later x none ≡ x
later-none none = refl
later-none (some y) = refl

later-cond : (b : Bool) (e : Entry) (best x : Maybe Entry) → later (later x (cond b (some e) none)) best ≡ later x (cond b (some e) best)
later-cond true e best none = refl
later-cond true e best (some x) = refl
later-cond false e best none = refl
later-cond false e best (some x) = refl

-- the entry of the row that is kept
abbrev kept_entry : Option Row → Maybe Entry
kept_entry None = none
kept_entry (Some r) = some (row_entry r)

-- what the entries to come decide: `least` is the least id that may come, or the first fault of an entry; `kept` is the last row so far
-- that may hold the target
abbrev verdict : ℕ → Result ℕ Refusal → Option Row → List Entry → Out Hit
verdict t least kept es = said_checked least >>= λ lo. check lo es (ok (hit t (later (last_at es t) (kept_entry kept))))

pub record Sweeping (l : List ℕ) (from : Columns) (t : ℕ) (k : Columns) (least : Result ℕ Refusal) (kept : Option Row) : Type 0 where
  pub same : sweep_in l from t ≡ rest_in l k (verdict t least kept)
  pub low : IfSome kept (λ r. r.id ≤ t)

pub start : (l : List ℕ) (from : Columns) (t : ℕ) → Sweeping l from t from (Ok 0) None
unfolding sweep_in search
start l from t =
    record {
      same = rest-same l from _ (λ es. ap (λ (o : Maybe Entry). check 0 es (ok (hit t o))) (sym (later-none (last_at es t))));
      low = tt;
    }

module _ {l : List ℕ} {from : Columns} {t : ℕ} {k : Columns} {least : Result ℕ Refusal} {kept : Option Row} (w : Sweeping l from t k least kept) where
  pub refused : {n : ℕ} → bad n ≡ next_in l k → bad n ≡ sweep_in l from t
  refused p = sym (w.same ∙ rest-bad l k _ p)

  module _ (p : ok none ≡ next_in l k) where
    ends : said_checked least >>= (λ lo. ok (hit t (kept_entry kept))) ≡ sweep_in l from t
    ends = sym (w.same ∙ rest_end l k _ p)

    pub ends-faulty : (r : Refusal) → least ≡ Err r → bad (number_of r) ≡ sweep_in l from t
    ends-faulty r e = rw e at ends

    module _ (lo : ℕ) (e : least ≡ Ok lo) where
      -- its id, which is at most the target, is a tile's
      pub ends-found : (r : Row) → kept ≡ Some r → t ≤ max_id → answering r.id r.run_length r.length r.offset.0 t ≡ sweep_in l from t
      ends-found r h m =
          let below : r.id ≤ t = rw h at w.low in
          answered _ _ _ _ _ (omega arith) ∙ (rw (e, h) at ends)

      pub ends_absent : kept ≡ None → ok absent ≡ sweep_in l from t
      ends_absent h = rw (e, h) at ends

  -- a row comes
  module _ (r : Row) {k' : Columns} (p : ok (some (row_entry r, k')) ≡ next_in l k) where
    -- after an entry's fault the rows are passed by
    pub passes : (x : Refusal) → least ≡ Err x → Sweeping l from t k' least kept
    passes x h = record { low = w.low; same = w.same ∙ rest-row l k _ p ∙ rest-same l k' _ (λ es. rw h) }

    module _ (lo : ℕ) (h : least ≡ Ok lo) (after : Result ℕ Refusal) (c : said_checked after ≡ checked lo r.id r.run_length r.length) where
      goes_on : (b : Bool) → leb r.id t ≡ b → (kept' : Option Row) → cond b (some (row_entry r)) (kept_entry kept) ≡ kept_entry kept'
          → IfSome kept' (λ x. x.id ≤ t) → Sweeping l from t k' after kept'
      goes_on b q kept' e low =
          record {
            low = low;
            same =
                w.same
                ∙ rest-row l k _ p
                ∙ rest-same l k' _ (λ es.
                rw (later-cond (leb r.id t) (row_entry r) (kept_entry kept) (last_at es t), q, e, h)
                (check-next lo (row_entry r) es _ ∙ (rw (← c))));
          }

      pub keeps : r.id ≤ t → Sweeping l from t k' after (Some r)
      keeps m = goes_on true (le-leb r.id t m) (Some r) refl m

      pub skips : t < r.id → Sweeping l from t k' after kept
      skips m = goes_on false (lt-leb r.id t m) kept refl w.low

-- what the goals of `sweep` cite
pub ruleset sweeping = (start, refused, passes, keeps, skips, ends-faulty, ends-found, ends_absent, next_less)
