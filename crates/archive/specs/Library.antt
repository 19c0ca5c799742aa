-- The third promise for programs in C: the same sentence, from what the exported functions ensure. Assumes nothing.
--
-- The theorem `library-promise-3` (proofs/Library) takes as premises just that: `BuildTold ..` of `pmt_build`, `PublishTold ..` of each call of
-- `pmt_publish` in a `Row`, `Sought ..` of `pmt_lookup` and `pmt_lookup_coord`. A status is 0 for done or found, 255 for absent.
use Rattle.std.specs.Prelude.{ℕ, ◌+◌, ◌≤◌, ◌<◌, ◌≡◌, ◌⊎◌, Float, drop, get_or, length, take}
use mathlib.Core.List.{List, [], ◌∷◌, Memᴰ}
use Rattle.std.proofs.lemmas.List.Edits.{sets}
use Rattle.directory.specs.Entries.{Entry}
use Rattle.directory.specs.Search.{Covers}
use Rattle.reader.specs.Lookup.{lookup, lookup_coord_lem}
use Rattle.publisher.specs.Calls.{Parts, stores_of, total_of}
use Rattle.publisher.specs.Plan.{stored_from}
use Rattle.pmtiles.specs.Exports.{Sought, within}
use Rattle.pmtiles.specs.Publishes.{PublishTold, counts_given, publishing_given, settings_in_lem}
use Rattle.archive.specs.Demand.{Tile, by_coord, by_id, id_of}

-- ---- the premises: what the exported functions ensure

-- what every call of a publication is lent, beside the destination and the slot for the position
pub record Given : Type 0 where
  pub settings : List ℕ
  pub degrees : List Float
  pub counts : List ℕ
  pub root : List ℕ
  pub metadata : List ℕ
  pub tiles : List ℕ
  pub leaves : List ℕ

abbrev pub parts_given : Given → Parts
parts_given g =
    record {
      settings = settings_in_lem g.settings g.degrees;
      counts = counts_given g.counts;
      root = g.root;
      metadata = g.metadata;
      tiles = g.tiles;
      leaves = g.leaves;
    }

-- of what `pmt_build` left: so many bytes of its buffers as slots 0 and 1 tell, and slots 2 and 3 as they are
abbrev pub given : List ℕ → List Float → List ℕ → List ℕ → List ℕ → List ℕ → List ℕ → Given
given settings degrees out root metadata tiles leaves =
    record {
      settings = settings;
      degrees = degrees;
      counts = take 2 (drop 2 out);
      root = take (get_or out 0 0) root;
      metadata = metadata;
      tiles = tiles;
      leaves = take (get_or out 1 0) leaves;
    }

-- a call of `pmt_publish` answers a status, and leaves dest' and out'
abbrev pub Publishes : Given → ℕ → ℕ → ℕ → List ℕ → List ℕ → List ℕ → List ℕ → Type 0
Publishes g position budget status dest dest' out out' =
    PublishTold
    (publishing_given g.settings g.degrees g.counts out g.root g.metadata g.tiles g.leaves dest position budget)
    (stored_from position budget (stores_of (parts_given g)) dest) status dest dest' out out'

-- calls in a row that were done: each at the position that the one before told and on what it left
pub data Row (g : Given) : ℕ → List ℕ → ℕ → List ℕ → Type 0 where
  none : {position : ℕ} {dest : List ℕ} → Row g position dest position dest
  more : {position last : ℕ} {dest dest' dest'' out out' : List ℕ} (budget : ℕ)
      → Publishes g position budget 0 dest dest' out out' → Row g (get_or out' 0 0) dest' last dest'' → Row g position dest last dest''

-- a lookup of a tile answers a status, and leaves out'
abbrev pub Answers : List ℕ → Tile → ℕ → List ℕ → List ℕ → Type 0
Answers archive (by_id id h) status out out' = Sought (within 2 out (lookup archive id)) (λ x. x.start ∷ x.size ∷ []) out status out'
Answers archive (by_coord z x y hz hx hy) status out out' = Sought (within 2 out (lookup_coord_lem archive z x y)) (λ x. x.start ∷ x.size ∷ []) out status out'

-- ---- the sentence

-- the answer for a tile once all is stored
pub record Told (entries : List Entry) (start : ℕ) (t : Tile) (status : ℕ) (out out' : List ℕ) : Type 0 where
  pub found : (e : Entry) → Memᴰ e entries → Covers e (id_of t) → (status ≡ 0) × (out' ≡ sets out 0 ((start + e.off) ∷ e.len ∷ []))
  pub only_covered : status ≡ 0 → (e : Entry) × Memᴰ e entries × Covers e (id_of t)
  pub otherwise_absent : ((e : Entry) → Memᴰ e entries → Covers e (id_of t) → ⊥) → (status ≡ 255) × (out' ≡ out)
  pub never_refused : (status ≡ 0) ⊎ (status ≡ 255)

-- a row of calls from position 0 on found `before` in the destination, has come to a position, and has left `dest`
pub record LibraryPromise3 (entries : List Entry) (g : Given) (before : List ℕ) (position : ℕ) (dest : List ℕ) : Type 0 where
  pub as_it_was : position ≡ 0 → dest ≡ before
  pub bad_magic : 0 < position → position < total_of (parts_given g) → (t : Tile) (status : ℕ) (out out' : List ℕ) → 2 ≤ length out
      → Answers dest t status out out' → (status ≡ 2) × (out' ≡ out)
  pub whole : position ≡ total_of (parts_given g) → (t : Tile) (status : ℕ) (out out' : List ℕ) → 2 ≤ length out
      → Answers dest t status out out' → Told entries (16384 + length g.metadata) t status out out'
  pub in_plan : position ≤ total_of (parts_given g)
