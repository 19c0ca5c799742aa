-- What is read where a header was written. Assumes nothing.
use Rattle.std.specs.Prelude.{◌≤◌, ◌<◌, ◌^◌, Float}
use Rattle.degrees.specs.Degrees.{degrees_of_lem, stored_of_lem}
use Rattle.header.specs.declared.Header.{Header}

-- known codes, and numbers that fit eight bytes. A byte is stored as it is held, so nothing is asked of the others
pub record Fits (h : Header) : Type 0 where
  pub root_offset : h.root_offset < 2 ^ 64
  pub root_length : h.root_length < 2 ^ 64
  pub metadata_offset : h.metadata_offset < 2 ^ 64
  pub metadata_length : h.metadata_length < 2 ^ 64
  pub leaf_offset : h.leaf_offset < 2 ^ 64
  pub leaf_length : h.leaf_length < 2 ^ 64
  pub data_offset : h.data_offset < 2 ^ 64
  pub data_length : h.data_length < 2 ^ 64
  pub n_addressed_tiles : h.n_addressed_tiles < 2 ^ 64
  pub n_tile_entries : h.n_tile_entries < 2 ^ 64
  pub n_tile_contents : h.n_tile_contents < 2 ^ 64
  pub internal_compression : h.internal_compression ≤ 4
  pub tile_compression : h.tile_compression ≤ 4
  pub tile_type : h.tile_type ≤ 6

-- the degrees of the number that is stored for x degrees
abbrev pub settled_degrees : Float → Float
settled_degrees x = degrees_of_lem (stored_of_lem x)

-- the same header, with its degrees as they are stored
unfoldable pub settled : Header → Header
settled h =
    record {
      version = h.version;
      root_offset = h.root_offset;
      root_length = h.root_length;
      metadata_offset = h.metadata_offset;
      metadata_length = h.metadata_length;
      leaf_offset = h.leaf_offset;
      leaf_length = h.leaf_length;
      data_offset = h.data_offset;
      data_length = h.data_length;
      n_addressed_tiles = h.n_addressed_tiles;
      n_tile_entries = h.n_tile_entries;
      n_tile_contents = h.n_tile_contents;
      clustered = h.clustered;
      internal_compression = h.internal_compression;
      tile_compression = h.tile_compression;
      tile_type = h.tile_type;
      min_zoom = h.min_zoom;
      max_zoom = h.max_zoom;
      degrees =
          record {
            min_longitude = settled_degrees h.degrees.min_longitude;
            min_latitude = settled_degrees h.degrees.min_latitude;
            max_longitude = settled_degrees h.degrees.max_longitude;
            max_latitude = settled_degrees h.degrees.max_latitude;
            center_longitude = settled_degrees h.degrees.center_longitude;
            center_latitude = settled_degrees h.degrees.center_latitude;
          };
      center_zoom = h.center_zoom;
    }
