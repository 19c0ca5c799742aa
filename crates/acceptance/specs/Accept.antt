-- What the builder takes: the checks, and what they decide. Assumes nothing.
use Rattle.std.specs.Prelude.{ℕ, ◌+◌, ◌≤◌, ◌<◌, List, [], ◌∷◌, leb, ltb, length}
use Rattle.refusal.specs.Out.{Out, ok, need}
use Rattle.directory.specs.Entries.{Entry, Valid, after, check_one, max_count}
use Rattle.directory.specs.Search.{All, counting, stored}

-- 12 for a run of 0, then 12, 13, 14 as in reading; 17: the contents do not lie in the `size` bytes of tile data
abbrev pub check_tile_lem : {A : Type 0} → ℕ → ℕ → Entry → Out A → Out A
check_tile_lem size lo e x = need (ltb 0 e.run) 12 (check_one lo e (need (leb (e.off + e.len) size) 17 x))

-- the least id that may follow, if the entry passes
unfoldable pub tile_one : ℕ → ℕ → Entry → Out ℕ
tile_one size lo e = check_tile_lem size lo e (ok (after e))

abbrev pub check_tiles_lem : {A : Type 0} → ℕ → ℕ → List Entry → Out A → Out A
check_tiles_lem size lo [] x = x
check_tiles_lem size lo (e ∷ es) x = check_tile_lem size lo e (check_tiles_lem size (after e) es x)

-- the first n entries of four stores, if the builder takes them
unfoldable pub accepting : ℕ → List ℕ → List ℕ → List ℕ → List ℕ → ℕ → Out (List Entry)
accepting n ids runs lens offs size = counting n ids runs lens offs (check_tiles_lem size 0 (stored n ids runs lens offs) (ok (stored n ids runs lens offs)))

-- the tiles addressed: the sum of the runs
abbrev pub addressed : List Entry → ℕ
addressed [] = 0
addressed (e ∷ es) = e.run + addressed es

-- ---- what the checks decide

-- an entry that the builder takes, beside the checks of reading: it covers a tile, whose contents lie in the tile data
pub record Taken (size : ℕ) (e : Entry) : Type 0 where
  pub covers : 0 < e.run
  pub in_data : e.off + e.len ≤ size

-- entries that the builder takes
pub record Accepts (size : ℕ) (es : List Entry) : Type 0 where
  pub few : length es ≤ max_count
  pub valid : Valid 0 es
  pub taken : All (Taken size) es
