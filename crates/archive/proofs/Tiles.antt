-- A valid tile is looked up by its id, however it is asked for; without the magic it is refused. Assumes nothing.
use Prim.Native.Nat.{ℕ, ◌≤◌}
use mathlib.Core.Path.{◌≡◌, refl, sym, ◌∙◌}
use mathlib.Core.List.{List, [], ◌∷◌}
use native.Mathlib.Omega.{arith}
use borrow.Author.Tests.{le-leb}
use lib.ListN.{get_or, length}
use Rattle.refusal.specs.Out.{bad}
use Rattle.tile.specs.Tile.{tile_id_lem}
use Rattle.tile.specs.Answers.{max_id, to_id}
use Rattle.tile.proofs.Ids.{coord-is, id_below}
use Rattle.header.specs.Header.{read_header}
use Rattle.reader.specs.Lookup.{lookup}
use Rattle.reader.proofs.Inside.{opened-bad}
use Rattle.reader.proofs.Lookups.{coord-is-id, not_opened}
use Rattle.archive.specs.Demand.{Tile, asked, by_coord, by_id, id_of}

pub id-valid : (t : Tile) → id_of t ≤ max_id
id-valid (by_id id h) = h
id-valid (by_coord z x y hz hx hy) = id_below z x y hz hx hy

pub asked-by-id : (a : List ℕ) (t : Tile) → asked a t ≡ lookup a (id_of t)
unfolding to_id
asked-by-id a (by_id id h) = refl
asked-by-id a (by_coord z x y hz hx hy) = sym (coord-is-id a z x y (tile_id_lem z x y) (rw (coord-is z x y hz hx hy)))

no-magic : (a : List ℕ) → 7 ≤ length a → get_or a 0 0 ≡ 0 → read_header a ≡ bad 2
unfolding read_header
no-magic [] n z = absurd (omega arith)
no-magic (x ∷ a) n z = rw (le-leb 7 (length (x ∷ a)) n, z)

pub refused : (a : List ℕ) → 7 ≤ length a → get_or a 0 0 ≡ 0 → (t : Tile) → asked a t ≡ bad 2
refused a n z t = asked-by-id a t ∙ sym (not_opened a (id_of t) (id-valid t) 2 (opened-bad a 2 (sym (no-magic a n z))))
