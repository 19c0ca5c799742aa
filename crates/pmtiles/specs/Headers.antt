-- Headers as numbers and degrees in lent slots. Assumes nothing.
use Rattle.std.specs.Prelude.{ℕ, min, Bool, ◌&&◌, List, [], ◌∷◌, ◌++◌, ◌≡◌, eqb, leb, Float, drop, get_or, length}
use Rattle.std.specs.Float.{nan}
use Rattle.std.proofs.lemmas.List.Edits.{sets}
use Rattle.refusal.specs.Out.{Out, ok, ◌>>=◌, afterwards, need}
use Rattle.header.specs.Header.{flag, header_bytes, write_header}
use Rattle.header.specs.declared.Degrees.{Degrees}
use Rattle.header.specs.declared.Header.{Header}
use Rattle.pmtiles.specs.Exports.{filled, status}

-- a call for 19 numbers and six degrees: 15 where fewer are lent, before all else
abbrev pub lent : {A : Type 0} → List ℕ → List Float → Out A → Out A
lent ns ds x = need (leb 19 (length ns)) 15 (need (leb 6 (length ds)) 15 x)

-- ---- out of a header

abbrev pub header_values : Header → List ℕ
header_values h =
    h.version  -- 0
    ∷ h.root_offset  -- 1
    ∷ h.root_length  -- 2
    ∷ h.metadata_offset  -- 3
    ∷ h.metadata_length  -- 4
    ∷ h.leaf_offset  -- 5
    ∷ h.leaf_length  -- 6
    ∷ h.data_offset  -- 7
    ∷ h.data_length  -- 8
    ∷ h.n_addressed_tiles  -- 9
    ∷ h.n_tile_entries  -- 10
    ∷ h.n_tile_contents  -- 11
    ∷ flag h.clustered  -- 12
    ∷ h.internal_compression  -- 13
    ∷ h.tile_compression  -- 14
    ∷ h.tile_type  -- 15
    ∷ h.min_zoom  -- 16
    ∷ h.max_zoom  -- 17
    ∷ h.center_zoom  -- 18
    ∷ []

abbrev pub degree_values : Degrees → List Float
degree_values d =
    d.min_longitude ∷ d.min_latitude ∷ d.max_longitude ∷ d.max_latitude ∷ d.center_longitude ∷ d.center_latitude ∷ []

-- a header read: the answer, and both kinds of slots before it and after it
pub record HeaderTold (x : Out Header) (answer : ℕ) (out out' : List ℕ) (degrees degrees' : List Float) : Type 0 where
  pub says : answer ≡ status x
  pub fills : out' ≡ filled x header_values out
  pub placed : degrees' ≡ afterwards x degrees (λ h. sets degrees 0 (degree_values h.degrees))

-- ---- into a header

abbrev pub number_in : List ℕ → ℕ → ℕ
number_in ns k = get_or ns k 0

abbrev pub degree_in : List Float → ℕ → Float
degree_in ds k = get_or ds k nan

unfoldable pub degrees_in_lem : List Float → Degrees
degrees_in_lem ds =
    record {
      min_longitude = degree_in ds 0;
      min_latitude = degree_in ds 1;
      max_longitude = degree_in ds 2;
      max_latitude = degree_in ds 3;
      center_longitude = degree_in ds 4;
      center_latitude = degree_in ds 5;
    }

-- where `held` is what a byte's field holds of a number
unfoldable pub header_with : (ℕ → ℕ) → List ℕ → List Float → Header
header_with held ns ds =
    record {
      version = held (number_in ns 0);
      root_offset = number_in ns 1;
      root_length = number_in ns 2;
      metadata_offset = number_in ns 3;
      metadata_length = number_in ns 4;
      leaf_offset = number_in ns 5;
      leaf_length = number_in ns 6;
      data_offset = number_in ns 7;
      data_length = number_in ns 8;
      n_addressed_tiles = number_in ns 9;
      n_tile_entries = number_in ns 10;
      n_tile_contents = number_in ns 11;
      clustered = eqb (number_in ns 12) 1;
      internal_compression = held (number_in ns 13);
      tile_compression = held (number_in ns 14);
      tile_type = held (number_in ns 15);
      min_zoom = held (number_in ns 16);
      max_zoom = held (number_in ns 17);
      degrees = degrees_in_lem ds;
      center_zoom = held (number_in ns 18);
    }

-- the header that the slots give
abbrev pub header_in_lem : List ℕ → List Float → Header
header_in_lem ns ds = header_with (λ n. n) ns ds

-- the version and the zooms fit a byte, and the flag is 0 or 1. A code needs no test of its own: writing refuses it
unfoldable pub fitting : List ℕ → Bool
fitting ns = leb (number_in ns 0) 255 && (leb (number_in ns 12) 1 && (leb (number_in ns 16) 255 && (leb (number_in ns 17) 255 && leb (number_in ns 18) 255)))

-- a number as a byte, where 255 stands for any above it
unfoldable pub byte_of : ℕ → ℕ
byte_of n = min n 255

-- a header written into a buffer of so many bytes
abbrev pub written_header : Header → ℕ → Out Header
written_header h room = write_header h room >>= λ _. ok h

-- the header that the slots give, written into a buffer of so many bytes: 1 where a number does not fit, then as `write_header` says
unfoldable pub making_header : List ℕ → List Float → ℕ → Out Header
making_header ns ds room = lent ns ds (need (fitting ns) 1 (written_header (header_in_lem ns ds) room))

-- a header written: the answer, and the buffer before it and after it
pub record HeaderMade (x : Out Header) (answer : ℕ) (bytes bytes' : List ℕ) : Type 0 where
  pub says : answer ≡ status x
  pub written : bytes' ≡ afterwards x bytes (λ h. header_bytes h ++ drop 127 bytes)
