-- The image of a publication, whatever lies behind it: its header is read back, and its sections stand where the header says. Assumes nothing.
use Prim.Native.Nat.{ℕ, zero, suc, ◌+◌, ◌-◌, ◌^◌, ◌≤◌, ◌<◌}
use mathlib.Core.Path.{◌≡◌, refl, ap, sym, ◌∙◌}
use mathlib.Core.List.{List, [], ◌∷◌, ◌++◌, append_assoc}
use native.Mathlib.Omega.{arith}
use borrow.Author.Tests.{ne_eqb}
use lib.ListN.{length, length-append}
use Rattle.refusal.specs.Out.{ok}
use Rattle.header.specs.Header.{header_bytes, max_compression, max_type}
use Rattle.header.specs.Settled.{Fits, settled}
use Rattle.header.specs.declared.Header.{Header}
use Rattle.header.proofs.ReadBack.{header-length, read-written}
use Rattle.reader.specs.Ranges.{Sections, opened, sections_of}
use Rattle.reader.proofs.Inside.{opened-by, root-inside}
use Rattle.acceptance.specs.declared.Counts.{Counts}
use Rattle.publisher.specs.Plan.{header_for, image, leaf_place, zeros}
use Rattle.publisher.specs.Publish.{total}
use Rattle.publisher.specs.declared.Settings.{Settings}
use Rattle.publisher.proofs.Stores.{length-zeros}
use Rattle.archive.proofs.Placed.{Holds, Placed}

-- the sections of an archive whose root, metadata, data and leaves have r, m, d and l bytes
abbrev pub sections : ℕ → ℕ → ℕ → ℕ → Sections
sections r m d l =
    record {
      root = record { start = 127; size = r };
      leaves = record { start = leaf_place m d l; size = l };
      tiles = record { start = 16384 + m; size = d };
    }

place-some : (m d l : ℕ) → 0 < l → leaf_place m d l ≡ 16384 + m + d
place-some m d l h = rw (ne_eqb l 0 (λ z. omega arith))

place-le : (m d l : ℕ) → leaf_place m d l ≤ 16384 + m + d
place-le m d zero = omega arith
place-le m d (suc l) = rw (place-some m d (suc l) (omega arith)) (omega arith)

-- ---- the sections stand there

module _ (header root metadata tiles leaves rest : List ℕ) (h : length header ≡ 127) (r : length root ≤ 16257) where
  abbrev whole : List ℕ
  whole = image header root metadata tiles leaves ++ rest

  -- the header and what comes behind it
  abbrev behind : List ℕ
  behind = root ++ (zeros (16257 - length root) ++ (metadata ++ (tiles ++ (leaves ++ rest))))

  image-is : whole ≡ header ++ behind
  unfolding image
  image-is = simp append_assoc

  root-holds : Holds whole (record { start = 127; size = length root }) root
  root-holds =
      record { pre = header; post = zeros (16257 - length root) ++ (metadata ++ (tiles ++ (leaves ++ rest))); is = image-is; place = h; size = refl }

  tiles_hold : Holds whole (record { start = 16384 + length metadata; size = length tiles }) tiles
  unfolding image
  tiles_hold =
      record {
        pre = header ++ (root ++ (zeros (16257 - length root) ++ metadata));
        post = leaves ++ rest;
        is = simp append_assoc;
        place = simp (length-append, length-zeros) (omega arith);
        size = refl;
      }

  -- leaves of no bytes stand anywhere
  leaves-hold : (l : List ℕ) → leaves ≡ l → Holds whole (record { start = leaf_place (length metadata) (length tiles) (length l); size = length l }) l
  unfolding image
  leaves-hold [] e = record { pre = []; post = whole; is = refl; place = refl; size = refl }
  leaves-hold (x ∷ xs) e =
      record {
        pre = header ++ (root ++ (zeros (16257 - length root) ++ (metadata ++ tiles)));
        post = rest;
        is = rw e (simp append_assoc);
        place = simp (length-append, length-zeros, place-some (length metadata) (length tiles) (suc (length xs)) (omega arith)) (omega arith);
        size = refl;
      }

  pub image-placed : Placed (sections (length root) (length metadata) (length tiles) (length leaves)) whole root tiles leaves
  image-placed = record { root_here = root-holds; tiles_here = tiles_hold; leaves_here = leaves-hold leaves refl }

-- ---- the header is read back

module _ (s : Settings) (c : Counts) (r m d l : ℕ) where
  sections-are : sections_of (settled (header_for s c r m d l)) ≡ sections r m d l
  unfolding settled header_for
  sections-are = refl

  pub header-fits : s.tile_compression ≤ max_compression → s.tile_type ≤ max_type → total r m d l ≤ 2 ^ 64 - 1
      → c.n_tile_entries < 2 ^ 64 → c.n_addressed_tiles < 2 ^ 64 → Fits (header_for s c r m d l)
  unfolding header_for
  header-fits code type sum entries addressed =
      record {
        root_offset = omega arith;
        root_length = omega arith;
        metadata_offset = omega arith;
        metadata_length = omega arith;
        leaf_offset = omega (arith, place-le m d l);
        leaf_length = omega arith;
        data_offset = omega arith;
        data_length = omega arith;
        n_addressed_tiles = addressed;
        n_tile_entries = entries;
        n_tile_contents = omega arith;
        internal_compression = omega arith;
        tile_compression = code;
        tile_type = type;
      }

  opens : (rest : List ℕ) → Fits (header_for s c r m d l) → 127 + r ≤ length (header_bytes (header_for s c r m d l) ++ rest)
      → opened (header_bytes (header_for s c r m d l) ++ rest) ≡ ok (sections r m d l)
  unfolding settled header_for
  opens rest f n =
      sym (opened-by _ _ (sym (read-written (header_for s c r m d l) f rest)))
      ∙ root-inside (settled (header_for s c r m d l)) _ refl n
      ∙ ap ok sections-are

module _ (s : Settings) (c : Counts) (root metadata tiles leaves rest : List ℕ) where
  abbrev header : Header
  header = header_for s c (length root) (length metadata) (length tiles) (length leaves)

  pub image-opens : Fits header → length root ≤ 16257
      → opened (image (header_bytes header) root metadata tiles leaves ++ rest) ≡ ok (sections (length root) (length metadata) (length tiles) (length leaves))
  image-opens f n =
      let more = behind (header_bytes header) root metadata tiles leaves rest (header-length header) n in
      rw (image-is (header_bytes header) root metadata tiles leaves rest (header-length header) n)
      (opens s c (length root) (length metadata) (length tiles) (length leaves) more f (simp length-append (omega (arith, header-length header))))
