-- A header has 127 bytes, and is read back from them whatever follows, its degrees as they are stored. Assumes nothing.
use mathlib.Core.Bool.{Bool, true, false}
use mathlib.Core.List.{List, ◌++◌, flatten}
use mathlib.Core.Path.{◌≡◌, refl, ap, ◌∙◌}
use Prim.Native.Nat.{ℕ, ◌≤◌}
use native.Mathlib.Omega.{arith}
use borrow.Author.Tests.{le-leb}
use lib.Dec.{eqb}
use lib.Ieee.{Float}
use lib.ListN.{length, length-append}
use Rattle.refusal.specs.Out.{ok}
use Rattle.degrees.specs.Degrees.{degrees_of_lem, stored_of_lem}
use Rattle.degrees.proofs.Sizes.{stored-fits}
use Rattle.header.specs.Bytes.{byte_at, number_at, bytes_of, signed_of, bits_of_lem}
use Rattle.header.specs.Header.{coordinate, degree_at_lem, degrees_at_lem, fields_of, flag, header_bytes, header_fields, magic, read_fields_lem, read_header, starts_with}
use Rattle.header.specs.Settled.{Fits, settled, settled_degrees}
use Rattle.header.specs.declared.Header.{Header}
use Rattle.header.proofs.LittleEndian.{number-back}
use Rattle.header.proofs.Twos.{bits-lt, signed-bits}

pub header-length : (h : Header) → length (header_bytes h) ≡ 127
unfolding flatten bytes_of header_fields header_bytes
header-length h = refl

-- ---- field by field
flag-back : (c : Bool) → eqb (flag c) 1 ≡ c
flag-back true = refl
flag-back false = refl

degree-back : (x : Float) → degree_at_lem (coordinate x) 0 ≡ settled_degrees x
degree-back x =
    let z = stored_of_lem x in
    ap (λ (u : ℕ). degrees_of_lem (signed_of u)) (number-back 4 (bits_of_lem z) (bits-lt z (stored-fits x))) ∙ ap degrees_of_lem (signed-bits z (stored-fits x))

fields_back : (h : Header) → Fits h → (rest : List ℕ) → fields_of (header_bytes h ++ rest) ≡ settled h
unfolding flatten number_at bytes_of header_fields header_bytes degrees_at_lem fields_of settled
fields_back h f rest =
    λ i. record {
      version = h.version;
      root_offset = number-back 8 h.root_offset f.root_offset i;
      root_length = number-back 8 h.root_length f.root_length i;
      metadata_offset = number-back 8 h.metadata_offset f.metadata_offset i;
      metadata_length = number-back 8 h.metadata_length f.metadata_length i;
      leaf_offset = number-back 8 h.leaf_offset f.leaf_offset i;
      leaf_length = number-back 8 h.leaf_length f.leaf_length i;
      data_offset = number-back 8 h.data_offset f.data_offset i;
      data_length = number-back 8 h.data_length f.data_length i;
      n_addressed_tiles = number-back 8 h.n_addressed_tiles f.n_addressed_tiles i;
      n_tile_entries = number-back 8 h.n_tile_entries f.n_tile_entries i;
      n_tile_contents = number-back 8 h.n_tile_contents f.n_tile_contents i;
      clustered = flag-back h.clustered i;
      internal_compression = h.internal_compression;
      tile_compression = h.tile_compression;
      tile_type = h.tile_type;
      min_zoom = h.min_zoom;
      max_zoom = h.max_zoom;
      degrees =
          record {
            min_longitude = degree-back h.degrees.min_longitude i;
            min_latitude = degree-back h.degrees.min_latitude i;
            max_longitude = degree-back h.degrees.max_longitude i;
            max_latitude = degree-back h.degrees.max_latitude i;
            center_longitude = degree-back h.degrees.center_longitude i;
            center_latitude = degree-back h.degrees.center_latitude i;
          };
      center_zoom = h.center_zoom;
    }

-- ---- no test refuses
module _ (s : List ℕ) (n : 127 ≤ length s) (m : starts_with magic s ≡ true) (a : byte_at s 97 ≤ 4) (b : byte_at s 98 ≤ 4) (c : byte_at s 99 ≤ 6) where
  all_pass : read_header s ≡ ok (fields_of s)
  unfolding read_header read_fields_lem
  all_pass =
      let n7 : 7 ≤ length s = omega arith in
      let n98 : 98 ≤ length s = omega arith in
      let n99 : 99 ≤ length s = omega arith in
      let n100 : 100 ≤ length s = omega arith in
      simp (le-leb, m)

passed : (h : Header) → Fits h → (rest : List ℕ) → read_header (header_bytes h ++ rest) ≡ ok (fields_of (header_bytes h ++ rest))
unfolding flatten bytes_of header_fields header_bytes
passed h f rest =
    all_pass (header_bytes h ++ rest) (omega (arith, length-append (header_bytes h) rest, header-length h)) refl
    f.internal_compression f.tile_compression f.tile_type

pub read-written : (h : Header) → Fits h → (rest : List ℕ) → read_header (header_bytes h ++ rest) ≡ ok (settled h)
read-written h f rest = passed h f rest ∙ ap ok (fields_back h f rest)
