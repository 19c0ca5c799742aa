-- The marked examples, as one list under one claim, which the checker computes. Assumes nothing.
use Prim.Native.Nat.{ℕ}
use mathlib.Core.Path.{◌≡◌, refl}
use mathlib.Core.List.{List, [], ◌∷◌}
use mathlib.Core.Option.{none}
use lib.ListN.{length}
use Rattle.refusal.specs.Out.{ok, bad}
use Rattle.varint.specs.Varint.{read, put}
use Rattle.tile.specs.Answers.{to_coord_lem, to_id}
use Rattle.tile.specs.Tile.{base, coord_of_lem, index, place, tile_id_lem, zoom_of, zoom_up_to}
use Rattle.directory.specs.Entries.{Entry, entry}
use Rattle.directory.specs.Columns.{columns}
use Rattle.directory.specs.Decode.{decode, ended}
use Rattle.directory.specs.Encode.{encode}

pub data Example : Type 0 where
  -- zoom, x, y and the id
  tile : ℕ → ℕ → ℕ → ℕ → Example
  -- the bytes and what they are
  directory : List ℕ → List Entry → Example
  -- the bytes and the refusal
  refused : List ℕ → ℕ → Example

-- each is read and written
abbrev pub Holds : Example → Type 0
Holds (tile z x y id) = (to_id z x y ≡ ok id) × (to_coord_lem id ≡ ok (z, (x, y)))
Holds (directory bytes es) = (decode none bytes ≡ ok (es, length bytes)) × (encode es ≡ bytes)
Holds (refused bytes n) = decode none bytes ≡ bad n

abbrev pub All : (Example → Type 0) → List Example → Type 0
All P [] = Unit {0}
All P (x ∷ xs) = P x × All P xs

abbrev pub examples : List Example
examples =
    tile 0 0 0 0
    ∷ tile 1 0 0 1
    ∷ tile 1 0 1 2
    ∷ tile 1 1 1 3
    ∷ tile 1 1 0 4
    ∷ tile 2 3 0 20
    ∷ tile 12 3423 1763 19078479
    ∷ directory (0 ∷ []) []
    ∷ directory (1 ∷ 0 ∷ 1 ∷ 5 ∷ 1 ∷ []) (entry 0 1 5 0 ∷ [])
    ∷ directory (2 ∷ 0 ∷ 1 ∷ 1 ∷ 2 ∷ 5 ∷ 7 ∷ 1 ∷ 0 ∷ []) (entry 0 1 5 0 ∷ entry 1 2 7 5 ∷ [])
    ∷ refused (1 ∷ 0 ∷ 1 ∷ 5 ∷ 0 ∷ []) 10
    ∷ []

pub marked : All Holds examples
unfolding to_id to_coord_lem tile_id_lem coord_of_lem zoom_of zoom_up_to base index place decode ended columns encode read put
marked = ((refl, refl), ((refl, refl), ((refl, refl), ((refl, refl), ((refl, refl), ((refl, refl), ((refl, refl), ((refl, refl), ((refl, refl), ((refl, refl), (refl, tt)))))))))))
