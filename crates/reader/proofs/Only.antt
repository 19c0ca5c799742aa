-- An answer is fixed by what it says: any two answers that meet a contract coincide. Assumes nothing.
use mathlib.Core.Path.{◌≡◌, refl}
use mathlib.Core.Option.{Option as Maybe, none, some}
use Rattle.std.specs.Prelude.{Option, None, Some, Result}
use Rattle.refusal.specs.declared.Refusal.{Refusal}
use Rattle.refusal.proofs.Numbers.{one-said}
use Rattle.reader.specs.Ranges.{Range}
use Rattle.reader.specs.Answers.{range_found, range_of, said_lookup, said_opened, said_ranged, sections_given}
use Rattle.reader.specs.declared.Located.{Located}
use Rattle.reader.specs.declared.Section.{Section}
use Rattle.reader.specs.declared.Sections.{Sections as SectionsGiven}

abbrev section : Range → Section
section r = record { offset = record { 0 = r.start }; length = r.size }

pub one-opened : (a b : Result SectionsGiven Refusal) → said_opened a ≡ said_opened b → a ≡ b
one-opened = one-said sections_given (λ s. record { root = section s.root; leaves = section s.leaves; tiles = section s.tiles }) (λ s. refl)

abbrev place : Range → Located
place r = record { start = record { 0 = r.start }; length = r.size }

pub one-ranged : (a b : Result Located Refusal) → said_ranged a ≡ said_ranged b → a ≡ b
one-ranged = one-said range_of place (λ l. refl)

-- `range_found` undone
abbrev place_found : Maybe Range → Option Located
place_found none = None
place_found (some r) = Some (place r)

found-back : (x : Option Located) → place_found (range_found x) ≡ x
found-back None = refl
found-back (Some l) = refl

pub one-lookup : (a b : Result (Option Located) Refusal) → said_lookup a ≡ said_lookup b → a ≡ b
one-lookup = one-said range_found place_found found-back
