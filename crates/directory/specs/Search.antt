-- Search in a directory's entries. Assumes nothing.
use Rattle.std.specs.Prelude.{ℕ, ◌+◌, ◌-◌, ◌≤◌, ◌<◌, min, cond, List, [], ◌∷◌, leb, ltb, eqb, length, take}
use Rattle.std.proofs.Math.Option.{Option, none, some}
use Rattle.refusal.specs.Out.{Out, ok, ◌>>=◌, need}
use Rattle.tile.specs.Answers.{is_id}
use Rattle.directory.specs.Entries.{Entry, check, max_count}
use Rattle.directory.specs.Columns.{entries}
use Rattle.directory.specs.Decode.{decode}

pub data Hit : Type 0 where
  absent : Hit
  tile : Entry → Hit
  leaf : Entry → Hit

abbrev pub later : Option Entry → Option Entry → Option Entry
later none y = y
later (some x) y = some x

-- the last entry whose id is at most the target
abbrev pub last_at : List Entry → ℕ → Option Entry
last_at [] t = none
last_at (e ∷ es) t = later (last_at es t) (cond (leb e.id t) (some e) none)

-- it counts if it is a pointer, or its run covers the target
abbrev pub hit : ℕ → Option Entry → Hit
hit t none = absent
hit t (some e) = cond (eqb e.run 0) (leaf e) (cond (ltb (t - e.id) e.run) (tile e) absent)

unfoldable pub search : List Entry → ℕ → Hit
search es t = hit t (last_at es t)

-- over a directory's bytes
unfoldable pub find_in : List ℕ → ℕ → Out Hit
find_in bs t = need (is_id t) 7 (decode none bs >>= λ (es, u). ok (search es t))

-- four stores, of which the first `count` slots count
abbrev pub stored : ℕ → List ℕ → List ℕ → List ℕ → List ℕ → List Entry
stored count ids runs lens offs = entries (take count ids) (take count runs) (take count lens) (take count offs)

abbrev pub shortest : List ℕ → List ℕ → List ℕ → List ℕ → ℕ
shortest ids runs lens offs = min (min (length ids) (length runs)) (min (length lens) (length offs))

-- 19 for more than a directory may have, 15 where a store is shorter; then what comes next
abbrev pub counting : {A : Type 0} → ℕ → List ℕ → List ℕ → List ℕ → List ℕ → Out A → Out A
counting count ids runs lens offs x = need (leb count max_count) 19 (need (leb count (shortest ids runs lens offs)) 15 x)

unfoldable pub find_stored : ℕ → List ℕ → List ℕ → List ℕ → List ℕ → ℕ → Out Hit
find_stored count ids runs lens offs t =
    need (is_id t) 7
    (counting count ids runs lens offs (check 0 (stored count ids runs lens offs) (ok (search (stored count ids runs lens offs) t))))

-- an entry covers the ids of its run
pub record Covers (e : Entry) (t : ℕ) : Type 0 where
  pub from : e.id ≤ t
  pub upto : t < e.id + e.run

abbrev pub All : (Entry → Type 0) → List Entry → Type 0
All P [] = Unit {0}
All P (e ∷ es) = P e × All P es

abbrev pub IsTile : Entry → Type 0
IsTile e = 0 < e.run
