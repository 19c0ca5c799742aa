-- `degrees_of` meets its contract: the constant's bits are ten million. Assumes nothing.
use mir.Syntax.{w32}
use mir.ValLaws.{to_z-of_z}
use borrow.Author.Rules.{sfits_of}
use lib.Ieee.{of_int, of_bits}
use Rattle.degrees.specs.Degrees.{degrees_of_lem, ten_million}
use Rattle.degrees.proofs.degrees_of.Goals as goal

pub returns : goal.returns
unfolding degrees_of_lem ten_million of_int of_bits
returns c = rw (c.from.ensures, to_z-of_z w32 c.args.n (sfits_of c.ranges.n.sfits))
