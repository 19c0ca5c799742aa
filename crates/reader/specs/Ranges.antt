-- Where things lie in an archive. Assumes nothing.
use Rattle.std.specs.Prelude.{ℕ, ◌+◌, List, eqb, leb, drop, length, take}
use Rattle.refusal.specs.Out.{Out, ok, ◌>>=◌, need}
use Rattle.header.specs.Header.{read_header}
use Rattle.header.specs.declared.Header.{Header}
use Rattle.directory.specs.Entries.{Entry}

-- so many bytes from a place of the archive on
pub record Range : Type 0 where
  pub start : ℕ
  pub size : ℕ

-- the bytes of a range
abbrev pub part : List ℕ → Range → List ℕ
part a r = take r.size (drop r.start a)

-- an entry's range in a section, where the archive has `total` bytes: it lies in the section and in the archive, in exact sums
unfoldable pub range_in_lem : Range → ℕ → Entry → Out Range
range_in_lem s total e =
    need (leb (e.off + e.len) s.size) 17
    (need (leb (s.start + (e.off + e.len)) total) 17
    (ok (record { start = s.start + e.off; size = e.len })))

-- what lookup needs of a header
pub record Sections : Type 0 where
  pub root : Range
  pub leaves : Range
  pub tiles : Range

abbrev pub sections_of : Header → Sections
sections_of h =
    record {
      root = record { start = h.root_offset; size = h.root_length };
      leaves = record { start = h.leaf_offset; size = h.leaf_length };
      tiles = record { start = h.data_offset; size = h.data_length };
    }

-- 16 for compressed directories; 17 for a root that does not lie in the archive
unfoldable pub opened_in : Header → ℕ → Out Sections
opened_in h total =
    need (eqb h.internal_compression 1) 16 (need (leb (h.root_offset + h.root_length) total) 17 (ok (sections_of h)))

-- the sections of an archive
unfoldable pub opened : List ℕ → Out Sections
opened a = read_header a >>= λ h. opened_in h (length a)
