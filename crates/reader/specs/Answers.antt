-- What the reader's functions answer, in the words of the definitions. Assumes nothing.
use Rattle.std.specs.Prelude.{Option, None, Some, Result}
use Rattle.std.proofs.Math.Option.{Option as Maybe, none, some}
use Rattle.refusal.specs.Out.{Out}
use Rattle.refusal.specs.Said.{said}
use Rattle.refusal.specs.declared.Refusal.{Refusal}
use Rattle.reader.specs.Ranges.{Range, Sections}
use Rattle.reader.specs.declared.Located.{Located}
use Rattle.reader.specs.declared.Section.{Section}
use Rattle.reader.specs.declared.Sections.{Sections as SectionsGiven}

abbrev pub range_of : Located → Range
range_of l = record { start = l.start.0; size = l.length }

abbrev pub section_of : Section → Range
section_of s = record { start = s.offset.0; size = s.length }

abbrev pub sections_given : SectionsGiven → Sections
sections_given s = record { root = section_of s.root; leaves = section_of s.leaves; tiles = section_of s.tiles }

-- the range of what was found, or none
abbrev pub range_found : Option Located → Maybe Range
range_found None = none
range_found (Some l) = some (range_of l)

abbrev pub said_opened : Result SectionsGiven Refusal → Out Sections
said_opened = said sections_given

abbrev pub said_ranged : Result Located Refusal → Out Range
said_ranged = said range_of

abbrev pub said_lookup : Result (Option Located) Refusal → Out (Maybe Range)
said_lookup = said range_found
