-- What is asked of publication and lookup together. Assumes nothing.
--
-- Publication, one byte store at a time in the given order, cut anywhere: before the first store the destination is as it was; after
-- some but not all, every valid tile is refused as bad magic (2); after all, a tile is found exactly if some entry's run covers its id, at
-- that entry's offset past the data's start and with its length, otherwise absent, and no lookup of a valid tile is refused.
--
-- `Demand3` says this, `Publishable` is all that it presumes, and the theorem `demand-3` gives the one from the other. It speaks of the code
-- by the contracts of four functions:
-- * `build` is done exactly if `accepting ..` is `ok es` and the buffers are long enough; it then answers `counts_of es` and lays `build es`
--   at the start of the buffers (`BuiltFrom`; the law `built-is`);
-- * `publish` answers `publishing ..` and leaves `stored_from position budget (stores ..) dest`, or after a refusal what was there, which is
--   a call of `calls` (`calling`; the law `called`);
-- * `lookup` and `lookup_coord` answer `lookup` and `lookup_coord_lem` of the archive's bytes, which is `asked` here.
use Rattle.std.specs.Prelude.{ℕ, ◌+◌, ◌-◌, ◌^◌, ◌≤◌, ◌<◌, min, ◌≡◌, drop, length, take}
use mathlib.Core.List.{List, Memᴰ}
use Rattle.std.proofs.Math.Option.{Option, none, some}
use Rattle.refusal.specs.Out.{Out, ok, bad}
use Rattle.tile.specs.Tile.{tile_id_lem}
use Rattle.tile.specs.Answers.{max_id}
use Rattle.header.specs.Header.{max_compression, max_type}
use Rattle.directory.specs.Entries.{Entry}
use Rattle.directory.specs.Search.{Covers}
use Rattle.reader.specs.Ranges.{Range, part}
use Rattle.reader.specs.Lookup.{lookup, lookup_coord_lem}
use Rattle.acceptance.specs.Accept.{accepting}
use Rattle.acceptance.specs.Answers.{counts_of}
use Rattle.writer.specs.Stock.{Typed}
use Rattle.writer.specs.Build.{build}
use Rattle.publisher.specs.Plan.{stored}
use Rattle.publisher.specs.Calls.{Parts, calls, stores_of, sum, total_of}
use Rattle.publisher.specs.declared.Settings.{Settings}

-- ---- what is published

pub record Publication : Type 0 where
  pub settings : Settings
  pub entries : List Entry
  pub metadata : List ℕ
  pub tiles : List ℕ

-- the builder's bytes
abbrev pub root_of : Publication → List ℕ
root_of p = (build p.entries).root

abbrev pub leaves_of : Publication → List ℕ
leaves_of p = (build p.entries).leaves

-- all that `publish` is given, with the builder's counts
abbrev pub parts_of : Publication → Parts
parts_of p = record { settings = p.settings; counts = counts_of p.entries; root = root_of p; metadata = p.metadata; tiles = p.tiles; leaves = leaves_of p }

-- what may be published into a destination, whatever it holds
pub record Publishable (p : Publication) (dest : List ℕ) : Type 0 where
  -- the builder took the entries from four stores, and was told how long the tile data is
  pub count : ℕ
  pub ids : List ℕ
  pub runs : List ℕ
  pub lengths : List ℕ
  pub offsets : List ℕ
  pub typed : Typed ids runs lengths offsets
  pub accepted : accepting count ids runs lengths offsets (length p.tiles) ≡ ok p.entries
  -- known codes
  pub compression : p.settings.tile_compression ≤ max_compression
  pub type : p.settings.tile_type ≤ max_type
  -- a total that fits, and a destination that is long enough
  pub fits : total_of (parts_of p) ≤ 2 ^ 64 - 1
  pub room : 16384 + length p.metadata + length p.tiles + length (leaves_of p) ≤ length dest

-- ---- stores and calls

-- how many byte stores there are
abbrev pub all_stores : Publication → ℕ
all_stores p = length (stores_of (parts_of p))

-- what the first n leave, in the given order
abbrev pub after_stores : Publication → ℕ → List ℕ → List ℕ
after_stores p n dest = stored (take n (stores_of (parts_of p))) dest

-- how far calls with such budgets come: to the sum of them, or to the last store
abbrev pub reached : Publication → List ℕ → ℕ
reached p budgets = min (sum budgets) (all_stores p)

-- ---- valid tiles

-- by id or by coordinate
pub data Tile : Type 0 where
  by_id : (id : ℕ) → id ≤ max_id → Tile
  by_coord : (z x y : ℕ) → z ≤ 31 → x < 2 ^ z → y < 2 ^ z → Tile

abbrev pub id_of : Tile → ℕ
id_of (by_id id h) = id
id_of (by_coord z x y hz hx hy) = tile_id_lem z x y

abbrev pub asked : List ℕ → Tile → Out (Option Range)
asked archive (by_id id h) = lookup archive id
asked archive (by_coord z x y hz hx hy) = lookup_coord_lem archive z x y

-- ---- the demand

-- an entry's offset past the data's start, and its length
abbrev pub contents : Publication → Entry → Range
contents p e = record { start = 16384 + length p.metadata + e.off; size = e.len }

-- after all stores; `Memᴰ e es`: e is one of es
pub record Whole (p : Publication) (archive : List ℕ) : Type 0 where
  pub found : (t : Tile) (e : Entry) → Memᴰ e p.entries → Covers e (id_of t) → asked archive t ≡ ok (some (contents p e))
  pub only_covered : (t : Tile) (r : Range) → asked archive t ≡ ok (some r) → (e : Entry) × Memᴰ e p.entries × Covers e (id_of t) × (r ≡ contents p e)
  pub otherwise_absent : (t : Tile) → ((e : Entry) → Memᴰ e p.entries → Covers e (id_of t) → ⊥) → asked archive t ≡ ok none
  pub never_refused : (t : Tile) (n : ℕ) → asked archive t ≡ bad n → ⊥
  -- and what is found there is the entry's tile data
  pub holds : (e : Entry) → Memᴰ e p.entries → part archive (contents p e) ≡ take e.len (drop e.off p.tiles)

pub record Demand3 (p : Publication) (dest : List ℕ) : Type 0 where
  -- calls from position 0 on, each at the position that the last returned, whatever their budgets: none is refused, and they leave what so
  -- many stores leave, none skipped and none repeated. What is published is the same in every call, and between calls nothing else changes
  -- the destination: `calls` hands both on as they are
  pub any_calls : (budgets : List ℕ)
      → calls (parts_of p) budgets (record { position = 0; dest = dest }) ≡ ok (record { position = reached p budgets; dest = after_stores p (reached p budgets) dest })
  pub before : after_stores p 0 dest ≡ dest
  pub during : (n : ℕ) → 0 < n → n < all_stores p → (t : Tile) → asked (after_stores p n dest) t ≡ bad 2
  pub after : Whole p (after_stores p (all_stores p) dest)
