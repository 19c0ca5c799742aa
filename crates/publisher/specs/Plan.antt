-- A publication: its header, its byte stores in order, and what stores leave of a destination. Assumes nothing.
-- root, metadata, tiles and leaves are the bytes of those sections.
use Rattle.std.specs.Prelude.{ℕ, zero, suc, ◌+◌, ◌-◌, true, cond, List, [], ◌∷◌, ◌++◌, eqb, ltb, length, get_or, take, drop, set, replicate}
use Rattle.header.specs.Header.{header_bytes}
use Rattle.header.specs.declared.Header.{Header}
use Rattle.acceptance.specs.declared.Counts.{Counts}
use Rattle.publisher.specs.declared.Settings.{Settings}

-- ---- the header

-- where the leaves start: behind the data, and 0 where there are none
abbrev pub leaf_place : ℕ → ℕ → ℕ → ℕ
leaf_place m d l = cond (eqb l 0) 0 (16384 + m + d)

-- the header of an archive whose root, metadata, data and leaves have r, m, d and l bytes
unfoldable pub header_for : Settings → Counts → ℕ → ℕ → ℕ → ℕ → Header
header_for s c r m d l =
    record {
      version = 3;
      root_offset = 127;
      root_length = r;
      metadata_offset = 16384;
      metadata_length = m;
      leaf_offset = leaf_place m d l;
      leaf_length = l;
      data_offset = 16384 + m;
      data_length = d;
      n_addressed_tiles = c.n_addressed_tiles;
      n_tile_entries = c.n_tile_entries;
      n_tile_contents = 0;
      clustered = true;
      internal_compression = 1;
      tile_compression = s.tile_compression;
      tile_type = s.tile_type;
      min_zoom = s.min_zoom;
      max_zoom = s.max_zoom;
      degrees = s.degrees;
      center_zoom = s.center_zoom;
    }

-- ---- stores

pub record Store : Type 0 where
  pub place : ℕ
  pub byte : ℕ

-- the stores that put bytes upward from a place, in order
abbrev pub upward : ℕ → List ℕ → List Store
upward i [] = []
upward i (b ∷ bs) = record { place = i; byte = b } ∷ upward (suc i) bs

-- what stores, done in order, leave of a destination
abbrev pub stored : List Store → List ℕ → List ℕ
stored [] dest = dest
stored (s ∷ ss) dest = stored ss (set dest s.place s.byte)

-- what the n stores from position p on leave, or as many as there are
abbrev pub stored_from : ℕ → ℕ → List Store → List ℕ → List ℕ
stored_from p n ss dest = stored (take n (drop p ss)) dest

-- ---- the plan

unfoldable pub zeros : ℕ → List ℕ
zeros n = replicate n 0

-- zeros 0 to 16,383; metadata, data, leaves upward
unfoldable pub behind : List ℕ → List ℕ → List ℕ → List Store
behind metadata tiles leaves =
    upward 0 (zeros 16384)
    ++ (upward 16384 metadata
    ++ (upward (16384 + length metadata) tiles
    ++ upward (16384 + length metadata + length tiles) leaves))

-- root upward; header bytes 1 to 126; header byte 0
unfoldable pub front : List ℕ → List ℕ → List Store
front header root = upward 127 root ++ (upward 1 (drop 1 header) ++ upward 0 (take 1 header))

unfoldable pub plan : List ℕ → List ℕ → List ℕ → List ℕ → List ℕ → List Store
plan header root metadata tiles leaves = behind metadata tiles leaves ++ front header root

-- the archive that stands there in the end
unfoldable pub image : List ℕ → List ℕ → List ℕ → List ℕ → List ℕ → List ℕ
image header root metadata tiles leaves = header ++ (root ++ (zeros (16257 - length root) ++ (metadata ++ (tiles ++ leaves))))

-- the stores of a publication
unfoldable pub stores : Settings → Counts → List ℕ → List ℕ → List ℕ → List ℕ → List Store
stores s c root metadata tiles leaves =
    plan (header_bytes (header_for s c (length root) (length metadata) (length tiles) (length leaves))) root metadata tiles leaves

-- ---- the plan store by store

-- store number k, where the root's stores start with number r and the header's with number h
abbrev store_from : List ℕ → List ℕ → List ℕ → ℕ → ℕ → ℕ → Store
store_from header root bytes r h k =
    cond (ltb k 16384) (record { place = k; byte = 0 })
    (cond (ltb k r) (record { place = k; byte = get_or bytes (k - 16384) 0 })
    (cond (ltb k h) (record { place = 127 + (k - r); byte = get_or root (k - r) 0 })
    (cond (ltb k (h + 126)) (record { place = 1 + (k - h); byte = get_or header (1 + (k - h)) 0 })
    (record { place = 0; byte = get_or header 0 0 }))))

-- zeros; the bytes behind them; root; header bytes 1 to 126; header byte 0
unfoldable pub store_at_lem : List ℕ → List ℕ → List ℕ → List ℕ → List ℕ → ℕ → Store
store_at_lem header root metadata tiles leaves k =
    store_from header root (metadata ++ (tiles ++ leaves))
    (16384 + length metadata + length tiles + length leaves)
    (16384 + length metadata + length tiles + length leaves + length root)
    k

-- n numbers from p upward
abbrev pub numbers : ℕ → ℕ → List ℕ
numbers p zero = []
numbers p (suc n) = p ∷ numbers (suc p) n
