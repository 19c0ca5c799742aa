-- The smallest archive with a tile: what the demand presumes can be met, and what it then says. Assumes nothing.
use Prim.Native.Nat.{ℕ, zero, suc, ◌+◌, ◌^◌, ◌≤◌, ◌<◌}
use mathlib.Core.Path.{◌≡◌, refl}
use mathlib.Core.List.Memᴰ
use mathlib.Core.List.{List, [], ◌∷◌}
use mathlib.Core.Option.{none, some}
use native.Mathlib.Omega.{arith}
use lib.ListN.{get_or, length}
use Rattle.refusal.specs.Out.{ok}
use Rattle.varint.specs.Varint.{put}
use Rattle.tile.specs.Tile.{base, index, tile_id_lem}
use Rattle.header.specs.Header.{default_degrees}
use Rattle.directory.specs.Entries.{entry}
use Rattle.directory.specs.Encode.{encode}
use Rattle.reader.specs.Lookup.{lookup_coord_lem}
use Rattle.acceptance.specs.Accept.{accepting}
use Rattle.acceptance.specs.Answers.{counts_of}
use Rattle.writer.specs.Build.{build}
use Rattle.publisher.proofs.Demand.{length-stores}
use Rattle.archive.specs.Demand.{Publication, Publishable, Tile, after_stores, all_stores, asked, by_coord, id_of, leaves_of, root_of}
use Rattle.archive.proofs.Demand.{demand-3}

-- 0/0/0 has five bytes; the metadata is {}
abbrev pub small : Publication
small =
    record {
      settings = record { tile_compression = 1; tile_type = 1; min_zoom = 0; max_zoom = 0; degrees = default_degrees; center_zoom = 0 };
      entries = entry 0 1 5 0 ∷ [];
      metadata = 123 ∷ 125 ∷ [];
      tiles = 1 ∷ 2 ∷ 3 ∷ 4 ∷ 5 ∷ [];
    }

pub how-many : all_stores small ≡ 16523
unfolding build encode put
how-many = length-stores small.settings (counts_of small.entries) (root_of small) small.metadata small.tiles (leaves_of small)

one_below : (x m : ℕ) → x < m → 0 < m → (k : ℕ) → get_or (x ∷ []) k 0 < m
one_below x m h z zero = h
one_below x m h z (suc k) = z

module _ (dest : List ℕ) (room : 16391 ≤ length dest) where
  pub publishable : Publishable small dest
  unfolding accepting build encode put
  publishable =
      record {
        count = 1;
        ids = 0 ∷ [];
        runs = 1 ∷ [];
        lengths = 5 ∷ [];
        offsets = 0 ∷ [];
        typed =
            record {
              id64 = one_below 0 (2 ^ 64) (omega arith) (omega arith);
              run32 = one_below 1 (2 ^ 32) (omega arith) (omega arith);
              len32 = one_below 5 (2 ^ 32) (omega arith) (omega arith);
              off64 = one_below 0 (2 ^ 64) (omega arith) (omega arith);
            };
        accepted = refl;
        compression = omega arith;
        type = omega arith;
        fits = omega arith;
        room = room;
      }

  pub there : lookup_coord_lem (after_stores small (all_stores small) dest) 0 0 0 ≡ ok (some (record { start = 16386; size = 5 }))
  unfolding tile_id_lem base index
  there =
      (demand-3 small dest publishable).after.found (by_coord 0 0 0 (omega arith) (omega arith) (omega arith)) (entry 0 1 5 0) (Memᴰ.head refl)
      (record { from = omega arith; upto = omega arith })

  pub nowhere-else : (t : Tile) → 0 < id_of t → asked (after_stores small (all_stores small) dest) t ≡ ok none
  nowhere-else t h =
      (demand-3 small dest publishable).after.otherwise_absent t
      (λ e m c. let s : e ≡ entry 0 1 5 0 = Memᴰ.eq_of_singleton m in
      let u : id_of t < e.id + e.run = c.upto in
      let v : id_of t < 0 + 1 = rw s at u in omega arith)
