-- The number of each refusal. Assumes nothing.
use Rattle.std.specs.Prelude.{ℕ}
use Rattle.refusal.specs.declared.Refusal.{Refusal}
use Rattle.refusal.specs.declared.Refusal.TheVariants as r

abbrev pub number_of : Refusal → ℕ
number_of r.InvalidHeader = 1
number_of r.InvalidMagicNumber = 2
number_of r.UnsupportedPmTilesVersion = 3
number_of r.InvalidCompression = 4
number_of r.InvalidTileType = 5
number_of r.InvalidCoordinate = 6
number_of r.InvalidTileId = 7
number_of r.VarintCutOff = 8
number_of r.VarintTooLarge = 9
number_of r.InvalidEntry = 10
number_of r.SumTooLarge = 11
number_of r.EmptyEntry = 12
number_of r.EntryIdTooLarge = 13
number_of r.EntriesOutOfOrder = 14
number_of r.RoomTooShort = 15
number_of r.CompressedDirectories = 16
number_of r.RangeOutside = 17
number_of r.TooDeep = 18
number_of r.TooManyEntries = 19
