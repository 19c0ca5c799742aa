-- The 127 bytes of a header: what they say, how they are written, and what a new archive starts with. Assumes nothing.
use Rattle.std.specs.Prelude.{ℕ, Bool, true, false, ◌&&◌, cond, eqb, leb, Float, length, take, drop}
use mathlib.Core.List.{List, [], ◌∷◌, flatten}
use Rattle.refusal.specs.Out.{Out, ok, need}
use Rattle.degrees.specs.Degrees.{decimal, degrees_of_lem, stored_of_lem}
use Rattle.header.specs.Bytes.{byte_at, number_at, bytes_of, signed_of, bits_of_lem}
use Rattle.header.specs.declared.Degrees.{Degrees}
use Rattle.header.specs.declared.Header.{Header}

-- ---- reading

-- "PMTiles"
abbrev pub magic : List ℕ
magic = 80 ∷ 77 ∷ 84 ∷ 105 ∷ 108 ∷ 101 ∷ 115 ∷ []

-- "PM", as an archive of any version starts
abbrev pub old_magic : List ℕ
old_magic = 80 ∷ 77 ∷ []

abbrev pub starts_with : List ℕ → List ℕ → Bool
starts_with [] s = true
starts_with (x ∷ xs) [] = false
starts_with (x ∷ xs) (y ∷ ys) = eqb x y && starts_with xs ys

-- a coordinate, in degrees
abbrev pub degree_at_lem : List ℕ → ℕ → Float
degree_at_lem s k = degrees_of_lem (signed_of (number_at 4 s k))

unfoldable pub degrees_at_lem : List ℕ → Degrees
degrees_at_lem s =
    record {
      min_longitude = degree_at_lem s 102;
      min_latitude = degree_at_lem s 106;
      max_longitude = degree_at_lem s 110;
      max_latitude = degree_at_lem s 114;
      center_longitude = degree_at_lem s 119;
      center_latitude = degree_at_lem s 123;
    }

unfoldable pub fields_of : List ℕ → Header
fields_of s =
    record {
      version = byte_at s 7;
      root_offset = number_at 8 s 8;
      root_length = number_at 8 s 16;
      metadata_offset = number_at 8 s 24;
      metadata_length = number_at 8 s 32;
      leaf_offset = number_at 8 s 40;
      leaf_length = number_at 8 s 48;
      data_offset = number_at 8 s 56;
      data_length = number_at 8 s 64;
      n_addressed_tiles = number_at 8 s 72;
      n_tile_entries = number_at 8 s 80;
      n_tile_contents = number_at 8 s 88;
      clustered = eqb (byte_at s 96) 1;
      internal_compression = byte_at s 97;
      tile_compression = byte_at s 98;
      tile_type = byte_at s 99;
      min_zoom = byte_at s 100;
      max_zoom = byte_at s 101;
      degrees = degrees_at_lem s;
      center_zoom = byte_at s 118;
    }

-- the largest codes of a compression and of a tile type
abbrev pub max_compression : ℕ
max_compression = 4

abbrev pub max_type : ℕ
max_type = 6

-- the fields in order, from the version on: 1 at the first that is not whole, 4 and 5 at a code that is not known.
-- No field before the first code has a fault of its own, so one test of the length stands for them all
unfoldable pub read_fields_lem : List ℕ → Out Header
read_fields_lem s =
    need (leb 98 (length s)) 1
    (need (leb (byte_at s 97) max_compression) 4
    (need (leb 99 (length s)) 1
    (need (leb (byte_at s 98) max_compression) 4
    (need (leb 100 (length s)) 1
    (need (leb (byte_at s 99) max_type) 5
    (need (leb 127 (length s)) 1
    (ok (fields_of s))))))))

unfoldable pub read_header : List ℕ → Out Header
read_header s = need (leb 7 (length s)) 1 (need (starts_with magic s) (cond (starts_with old_magic s) 3 2) (read_fields_lem s))

-- ---- writing

-- a byte, as it is held; the eight bytes of a u64; the four that are stored for a coordinate in degrees
abbrev pub u8 : ℕ → List ℕ
u8 b = b ∷ []

abbrev pub u64 : ℕ → List ℕ
u64 v = bytes_of 8 v

abbrev pub coordinate : Float → List ℕ
coordinate x = bytes_of 4 (bits_of_lem (stored_of_lem x))

-- 1 for clustered
abbrev pub flag : Bool → ℕ
flag c = cond c 1 0

-- the fields in the order of the bytes
unfoldable pub header_fields : Header → List (List ℕ)
header_fields h =
    magic  -- 0
    ∷ u8 h.version  -- 7
    ∷ u64 h.root_offset  -- 8
    ∷ u64 h.root_length  -- 16
    ∷ u64 h.metadata_offset  -- 24
    ∷ u64 h.metadata_length  -- 32
    ∷ u64 h.leaf_offset  -- 40
    ∷ u64 h.leaf_length  -- 48
    ∷ u64 h.data_offset  -- 56
    ∷ u64 h.data_length  -- 64
    ∷ u64 h.n_addressed_tiles  -- 72
    ∷ u64 h.n_tile_entries  -- 80
    ∷ u64 h.n_tile_contents  -- 88
    ∷ u8 (flag h.clustered)  -- 96
    ∷ u8 h.internal_compression  -- 97
    ∷ u8 h.tile_compression  -- 98
    ∷ u8 h.tile_type  -- 99
    ∷ u8 h.min_zoom  -- 100
    ∷ u8 h.max_zoom  -- 101
    ∷ coordinate h.degrees.min_longitude  -- 102
    ∷ coordinate h.degrees.min_latitude  -- 106
    ∷ coordinate h.degrees.max_longitude  -- 110
    ∷ coordinate h.degrees.max_latitude  -- 114
    ∷ u8 h.center_zoom  -- 118
    ∷ coordinate h.degrees.center_longitude  -- 119
    ∷ coordinate h.degrees.center_latitude  -- 123
    ∷ []

unfoldable pub header_bytes : Header → List ℕ
header_bytes h = flatten (header_fields h)

-- the bytes of n fields, from the k-th on
abbrev pub field_bytes : Header → ℕ → ℕ → List ℕ
field_bytes h k n = flatten (take n (drop k (header_fields h)))

-- the answer, for an output of n bytes
unfoldable pub write_header : Header → ℕ → Out (Unit {0})
write_header h n =
    need (leb h.internal_compression max_compression) 4
    (need (leb h.tile_compression max_compression) 4
    (need (leb h.tile_type max_type) 5
    (need (leb 127 n) 15
    (ok tt))))

-- ---- a new archive

unfoldable pub default_degrees : Degrees
default_degrees =
    record {
      min_longitude = decimal true 180 1;
      min_latitude = decimal true 85051129 1000000;
      max_longitude = decimal false 180 1;
      max_latitude = decimal false 85051129 1000000;
      center_longitude = decimal false 0 1;
      center_latitude = decimal false 0 1;
    }

-- with the codes of a compression and of a tile type, as they are given
unfoldable pub default_header : ℕ → ℕ → Header
default_header compression type =
    record {
      version = 3;
      root_offset = 127;
      root_length = 0;
      metadata_offset = 16384;
      metadata_length = 0;
      leaf_offset = 0;
      leaf_length = 0;
      data_offset = 0;
      data_length = 0;
      n_addressed_tiles = 0;
      n_tile_entries = 0;
      n_tile_contents = 0;
      clustered = true;
      internal_compression = 1;
      tile_compression = compression;
      tile_type = type;
      min_zoom = 0;
      max_zoom = 22;
      degrees = default_degrees;
      center_zoom = 0;
    }
