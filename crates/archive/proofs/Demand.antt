-- The demand on publication and lookup together holds. Assumes nothing.
use Prim.Native.Nat.{ℕ, suc, ◌+◌, ◌≤◌, ◌<◌, min}
use mathlib.Core.Path.{◌≡◌, refl, sym, subst, ◌∙◌}
use mathlib.Core.List.{List, [], ◌∷◌, ◌++◌, Memᴰ}
use mathlib.Core.Option.{none, some}
use native.Mathlib.Omega.{arith}
use lib.ListN.{drop, length, take}
use Rattle.refusal.specs.Out.{ok, bad}
use Rattle.tile.specs.Answers.{max_id}
use Rattle.header.specs.Header.{header_bytes}
use Rattle.header.specs.Settled.{Fits}
use Rattle.header.specs.declared.Header.{Header}
use Rattle.header.proofs.ReadBack.{header-length}
use Rattle.directory.specs.Entries.{Entry, Valid, after}
use Rattle.directory.specs.Search.{Covers, search}
use Rattle.search.proofs.Covers.{Answered, answered, none-covers, one_covers, search-absent, search-covering}
use Rattle.reader.specs.Ranges.{Range, part}
use Rattle.acceptance.specs.Accept.{Accepts, addressed}
use Rattle.acceptance.specs.Answers.{counts_of}
use Rattle.acceptance.proofs.Accepts.{accepting-sound}
use Rattle.writer.specs.Stock.{Stock}
use Rattle.writer.proofs.Growth.{root-fits}
use Rattle.writer.proofs.Stocks.{accepted-stock}
use Rattle.publisher.specs.Plan.{header_for, image}
use Rattle.publisher.specs.Calls.{calls, stores_of, sum}
use Rattle.publisher.proofs.Stores.{length-stored}
use Rattle.publisher.proofs.Demand.{all-stores, length-stores, some-stores}
use Rattle.publisher.proofs.Calls.{any-calls}
use Rattle.archive.specs.Demand.{Demand3, Publication, Publishable, Tile, Whole, after_stores, all_stores, asked, contents, id_of, leaves_of, parts_of, reached, root_of}
use Rattle.archive.proofs.Placed.{holds-part}
use Rattle.archive.proofs.Lookups.{all-tiles, answer_of, lookup-built, taken_in}
use Rattle.archive.proofs.Images.{header-fits, image-opens, image-placed, sections}
use Rattle.archive.proofs.Tiles.{asked-by-id, id-valid, refused}

-- entries that are in order address each tile at most once
addressed-le : (lo : ℕ) (es : List Entry) → Valid lo es → lo ≤ suc max_id → lo + addressed es ≤ suc max_id
addressed-le lo [] v h = omega arith
addressed-le lo (e ∷ es) v h =
    let low : lo ≤ e.id = v.0.low in
    let top : e.id ≤ max_id = v.0.top in
    let end : e.id + e.run ≤ suc max_id = v.0.end in
    omega (arith, addressed-le (after e) es v.1 (omega arith))

module _ (p : Publication) where
  abbrev headed : Header
  headed = header_for p.settings (counts_of p.entries) (length (root_of p)) (length p.metadata) (length p.tiles) (length (leaves_of p))

  module _ (dest : List ℕ) (pb : Publishable p dest) where
    -- ---- calls

    pub any-budgets : (budgets : List ℕ)
        → calls (parts_of p) budgets (record { position = 0; dest = dest }) ≡ ok (record { position = reached p budgets; dest = after_stores p (reached p budgets) dest })
    any-budgets budgets =
        subst
        (λ (n : ℕ). calls (parts_of p) budgets (record { position = 0; dest = dest })
        ≡ ok (record { position = min (sum budgets) n; dest = after_stores p (min (sum budgets) n) dest }))
        (sym (length-stores p.settings (counts_of p.entries) (root_of p) p.metadata p.tiles (leaves_of p)))
        (any-calls (parts_of p) budgets dest
        (record { compression = pb.compression; type = pb.type; sum = pb.fits; root = root-fits p.entries; room = pb.room }))

    -- ---- before the first store

    pub nothing_stored : after_stores p 0 dest ≡ dest
    nothing_stored = refl

    -- ---- after some and not all

    pub some_stored : (n : ℕ) → 0 < n → n < all_stores p → (t : Tile) → asked (after_stores p n dest) t ≡ bad 2
    some_stored n a b t =
        refused (after_stores p n dest) (omega (arith, length-stored (take n (stores_of (parts_of p))) dest, pb.room))
        (some-stores p.settings (counts_of p.entries) (root_of p) p.metadata p.tiles (leaves_of p) dest n 0 (omega (arith, pb.room)) a b) t

    -- ---- after all

    abbrev done : List ℕ
    done = after_stores p (all_stores p) dest

    abbrev rest : List ℕ
    rest = drop (16384 + length p.metadata + length p.tiles + length (leaves_of p)) dest

    done-is : done ≡ image (header_bytes headed) (root_of p) p.metadata p.tiles (leaves_of p) ++ rest
    done-is =
        all-stores p.settings (counts_of p.entries) (root_of p) p.metadata p.tiles (leaves_of p) dest (root-fits p.entries) pb.room

    accepts : Accepts (length p.tiles) p.entries
    accepts = (accepting-sound pb.count pb.ids pb.runs pb.lengths pb.offsets (length p.tiles) p.entries pb.accepted).2

    stock : Stock p.entries
    stock =
        accepted-stock pb.count pb.ids pb.runs pb.lengths pb.offsets (length p.tiles) p.entries pb.typed (omega (arith, pb.fits)) pb.accepted

    fits : Fits headed
    fits =
        header-fits p.settings (counts_of p.entries) (length (root_of p)) (length p.metadata) (length p.tiles) (length (leaves_of p))
        pb.compression pb.type pb.fits (omega (arith, accepts.few)) (omega (arith, addressed-le 0 p.entries accepts.valid (omega arith)))

    -- every tile is answered by search in the entries
    by-search : (t : Tile) → asked done t ≡ answer_of (record { start = 16384 + length p.metadata; size = length p.tiles }) (search p.entries (id_of t))
    by-search t =
        asked-by-id done t
        ∙ (rw done-is
        (lookup-built (id_of t) (id-valid t) (sections (length (root_of p)) (length p.metadata) (length p.tiles) (length (leaves_of p))) _ p.tiles p.entries
        (image-placed (header_bytes headed) (root_of p) p.metadata p.tiles (leaves_of p) rest (header-length headed) (root-fits p.entries))
        accepts.taken stock
        (image-opens p.settings (counts_of p.entries) (root_of p) p.metadata p.tiles (leaves_of p) rest fits (root-fits p.entries))))

    pub covered-found : (t : Tile) (e : Entry) → Memᴰ e p.entries → Covers e (id_of t) → asked done t ≡ ok (some (contents p e))
    covered-found t e m c = by-search t ∙ (rw (search-covering 0 (id_of t) p.entries e accepts.valid m c))

    pub others-absent : (t : Tile) → ((e : Entry) → Memᴰ e p.entries → Covers e (id_of t) → ⊥) → asked done t ≡ ok none
    others-absent t k = by-search t ∙ (rw (search-absent p.entries (id_of t) (all-tiles (length p.tiles) p.entries accepts.taken) k))

    -- one of the two
    which : (t : Tile) → Answered p.entries (id_of t)
    which t = answered p.entries (id_of t) (all-tiles (length p.tiles) p.entries accepts.taken)

    pub found-covered : (t : Tile) (r : Range) → asked done t ≡ ok (some r) → (e : Entry) × Memᴰ e p.entries × Covers e (id_of t) × (r ≡ contents p e)
    found-covered t r q = go (which t)
      where
        go : Answered p.entries (id_of t) → (e : Entry) × Memᴰ e p.entries × Covers e (id_of t) × (r ≡ contents p e)
        go (none-covers s) =
            let w : asked done t ≡ ok none = by-search t ∙ (rw s) in
            let z : ◌≡◌ {A = ℕ} 0 1 = cc in absurd (omega arith)
        go (one_covers e s m c) = let w : asked done t ≡ ok (some (contents p e)) = covered-found t e m c in (e, m, c, cc)

    pub none-refused : (t : Tile) (n : ℕ) → asked done t ≡ bad n → ⊥
    none-refused t n q = go (which t)
      where
        go : Answered p.entries (id_of t) → ⊥
        go (none-covers s) =
            let w : asked done t ≡ ok none = by-search t ∙ (rw s) in
            let z : ◌≡◌ {A = ℕ} 0 1 = cc in omega arith
        go (one_covers e s m c) =
            let w : asked done t ≡ ok (some (contents p e)) = covered-found t e m c in
            let z : ◌≡◌ {A = ℕ} 0 1 = cc in omega arith

    pub contents-held : (e : Entry) → Memᴰ e p.entries → part done (contents p e) ≡ take e.len (drop e.off p.tiles)
    contents-held e m =
        rw done-is
        (holds-part _ (record { start = 16384 + length p.metadata; size = length p.tiles }) p.tiles
        (image-placed (header_bytes headed) (root_of p) p.metadata p.tiles (leaves_of p) rest (header-length headed) (root-fits p.entries)).tiles_here
        e.off e.len (taken_in (length p.tiles) p.entries e accepts.taken m))

    pub all-stored : Whole p done
    all-stored =
        record { found = covered-found; only_covered = found-covered; otherwise_absent = others-absent; never_refused = none-refused; holds = contents-held }

-- ---- the whole

pub demand-3 : (p : Publication) (dest : List ℕ) → Publishable p dest → Demand3 p dest
demand-3 p dest pb =
    record { any_calls = any-budgets p dest pb; before = nothing_stored p dest pb; during = some_stored p dest pb; after = all-stored p dest pb }
