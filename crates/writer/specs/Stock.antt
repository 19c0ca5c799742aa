-- What is known of entries that come from stores. Assumes nothing.
use Rattle.std.specs.Prelude.{ℕ, ◌-◌, ◌^◌, ◌<◌, ◌≤◌, List, get_or, length}
use Rattle.directory.specs.Entries.{Entry}
use Rattle.directory.specs.Search.{All}
use Rattle.directory.specs.declared.Stores.{Stores}
use Rattle.acceptance.specs.Accept.{Accepts}
use Rattle.writer.specs.Cells.{in_use, slots}

-- what the types of four stores say of their numbers
pub record Typed (ids runs lens offs : List ℕ) : Type 0 where
  pub id64 : (k : ℕ) → get_or ids k 0 < 2 ^ 64
  pub run32 : (k : ℕ) → get_or runs k 0 < 2 ^ 32
  pub len32 : (k : ℕ) → get_or lens k 0 < 2 ^ 32
  pub off64 : (k : ℕ) → get_or offs k 0 < 2 ^ 64

-- and so of an entry of theirs
pub record Narrow (e : Entry) : Type 0 where
  pub run32 : e.run < 2 ^ 32
  pub len32 : e.len < 2 ^ 32
  pub off64 : e.off < 2 ^ 64

-- entries that the builder took from stores
pub record Stock (es : List Entry) : Type 0 where
  pub accepts : Accepts (2 ^ 64 - 1) es
  pub narrow : All Narrow es

-- stores whose entries the builder took
pub record Stocked (s : Stores) : Type 0 where
  pub inside : s.count ≤ length (slots s)
  pub accepts : Accepts (2 ^ 64 - 1) (in_use s)
