-- Two answers that meet a promise coincide: each answer is known by what it says. Assumes nothing.
use mathlib.Core.Path.{◌≡◌, refl}
use Rattle.std.specs.Prelude.{Result}
use Rattle.refusal.specs.declared.Refusal.{Refusal}
use Rattle.refusal.proofs.Numbers.{one-said}
use Rattle.directory.specs.Entries.{Entry}
use Rattle.directory.specs.Search.{Hit, absent, leaf, tile}
use Rattle.directory.specs.Answers.{found_of, said_found}
use Rattle.directory.specs.declared.DirEntry.{DirEntry}
use Rattle.directory.specs.declared.Found.{Found}
use Rattle.directory.specs.declared.Found.TheVariants as f

abbrev told_entry : Entry → DirEntry
told_entry e = record { tile_id = record { 0 = e.id }; run_length = e.run; length = e.len; offset = record { 0 = e.off } }

abbrev told_found_lem : Hit → Found
told_found_lem (tile e) = f.Tile (told_entry e)
told_found_lem (leaf e) = f.Leaf (told_entry e)
told_found_lem absent = f.Absent

found_back : (a : Found) → told_found_lem (found_of a) ≡ a
found_back (f.Tile e) = refl
found_back (f.Leaf e) = refl
found_back f.Absent = refl

pub one_found : (a b : Result Found Refusal) → said_found a ≡ said_found b → a ≡ b
one_found = one-said found_of told_found_lem found_back
