-- The third promise, from what the code ensures to the owner's sentence. Assumes nothing.
--
-- The theorem `promise-3` (proofs/Promise) takes as premises just what the functions ensure: `BuiltFrom ..` of `build`, `Call` of each call of
-- `publish` in a `Row`, `Answers` of `lookup` and `lookup_coord`. Its conclusion is `Promise3`. Beside them stand only what the types of the
-- slices say (`Typed`), and that the builder was told the length of the tile data that is published.
use Rattle.std.specs.Prelude.{ℕ, ◌+◌, ◌-◌, ◌≤◌, ◌<◌, min, ◌≡◌, length, take, Option, Some, None, Result, Ok, Err}
use mathlib.Core.List.{List, Memᴰ}
use Rattle.refusal.specs.Out.{afterwards}
use Rattle.refusal.specs.declared.Refusal.{Refusal}
use Rattle.refusal.specs.declared.Refusal.TheVariants as re
use Rattle.directory.specs.Entries.{Entry}
use Rattle.directory.specs.Search.{Covers}
use Rattle.reader.specs.Answers.{said_lookup}
use Rattle.reader.specs.Lookup.{lookup, lookup_coord_lem}
use Rattle.reader.specs.declared.Located.{Located}
use Rattle.acceptance.specs.declared.Counts.{Counts}
use Rattle.writer.specs.declared.Sizes.{Sizes}
use Rattle.publisher.specs.Answers.{said_published}
use Rattle.publisher.specs.Calls.{Parts, total_of}
use Rattle.publisher.specs.Plan.{stored_from, stores}
use Rattle.publisher.specs.Publish.{publishing}
use Rattle.publisher.specs.declared.Settings.{Settings}
use Rattle.archive.specs.Demand.{Tile, by_coord, by_id, id_of}

-- ---- the premises: what the code ensures

-- a call of `publish` at a position, with a budget, answers r and leaves dest'
pub record Call (x : Parts) (position budget : ℕ) (dest : List ℕ) (r : Result ℕ Refusal) (dest' : List ℕ) : Type 0 where
  pub answer : said_published r
      ≡ publishing x.settings (length x.root) (length x.metadata) (length x.tiles) (length x.leaves) (length dest) position budget
  pub bytes : dest'
      ≡ afterwards (publishing x.settings (length x.root) (length x.metadata) (length x.tiles) (length x.leaves) (length dest) position budget)
      dest (λ _. stored_from position budget (stores x.settings x.counts x.root x.metadata x.tiles x.leaves) dest)

-- calls in a row: each at the position that the one before answered and on what it left
pub data Row (x : Parts) : ℕ → List ℕ → ℕ → List ℕ → Type 0 where
  none : {position : ℕ} {dest : List ℕ} → Row x position dest position dest
  more : {position next last : ℕ} {dest dest' dest'' : List ℕ} (budget : ℕ)
      → Call x position budget dest (Ok next) dest' → Row x next dest' last dest'' → Row x position dest last dest''

-- a lookup of a tile, by id or by coordinate, answers r
abbrev pub Answers : List ℕ → Tile → Result (Option Located) Refusal → Type 0
Answers archive (by_id id h) r = said_lookup r ≡ lookup archive id
Answers archive (by_coord z x y hz hx hy) r = said_lookup r ≡ lookup_coord_lem archive z x y

-- what is published of that which `build` left in its buffers
abbrev pub parts : Settings → Counts → Sizes → List ℕ → List ℕ → List ℕ → List ℕ → Parts
parts settings counts sizes root metadata tiles leaves =
    record {
      settings = settings;
      counts = counts;
      root = take sizes.root root;
      metadata = metadata;
      tiles = tiles;
      leaves = take sizes.leaves leaves;
    }

-- ---- the sentence

-- an entry's contents: its offset past the data's start, and its length
abbrev pub place : ℕ → Entry → Located
place start e = record { start = record { 0 = start + e.off }; length = e.len }

-- the answer for a tile once all is stored
pub record Told (entries : List Entry) (start : ℕ) (t : Tile) (r : Result (Option Located) Refusal) : Type 0 where
  pub found : (e : Entry) → Memᴰ e entries → Covers e (id_of t) → r ≡ Ok (Some (place start e))
  pub only_covered : (l : Located) → r ≡ Ok (Some l) → (e : Entry) × Memᴰ e entries × Covers e (id_of t) × (l ≡ place start e)
  pub otherwise_absent : ((e : Entry) → Memᴰ e entries → Covers e (id_of t) → ⊥) → r ≡ Ok None
  pub never_refused : (n : Refusal) → r ≡ Err n → ⊥

-- a row of calls from position 0 on found `before` in the destination, has come to a position, and has left `dest`
pub record Promise3 (entries : List Entry) (x : Parts) (before : List ℕ) (position : ℕ) (dest : List ℕ) : Type 0 where
  -- before the first store the destination is as it was
  pub as_it_was : position ≡ 0 → dest ≡ before
  -- after some but not all, every valid tile is refused as bad magic
  pub bad_magic : 0 < position → position < total_of x → (t : Tile) (r : Result (Option Located) Refusal) → Answers dest t r → r ≡ Err re.InvalidMagicNumber
  -- after all, a tile is found exactly if some entry's run covers its id
  pub whole : position ≡ total_of x → (t : Tile) (r : Result (Option Located) Refusal) → Answers dest t r → Told entries (16384 + length x.metadata) t r
  -- a row never comes past the last store; and once a store is done, no call at its position is refused, so it can be cut and go on anywhere
  pub in_plan : position ≤ total_of x
  pub next : 0 < position → (budget : ℕ) (r : Result ℕ Refusal) (dest' : List ℕ) → Call x position budget dest r dest'
      → r ≡ Ok (position + min budget (total_of x - position))
