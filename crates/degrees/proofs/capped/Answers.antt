-- `capped` meets its contract. Assumes nothing.
use mathlib.Core.Bool.{not}
use mathlib.Core.Path.{ap}
use native.Mathlib.Omega.{arith}
use denote.Floats.{passes}
use lib.Ieee.{of_bits}
use Rattle.degrees.proofs.Sizes.{far}
use Rattle.degrees.proofs.capped.Goals as goal

pub rounded_by_bits-n-requires : goal.rounded_by_bits-n-requires
unfolding of_bits
rounded_by_bits-n-requires c = record { positive = c.requires.positive; below = passes _ c.if-a.true }

pub returns-else-a : goal.returns-else-a
unfolding of_bits
returns-else-a c = let h = far c.args.a c.requires.positive (passes _ (ap not c.if-a.false)) in omega arith
