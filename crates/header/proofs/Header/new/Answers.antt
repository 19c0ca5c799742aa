-- `Header::new` meets its contract: each literal's bit pattern is the float that the decimal means. Assumes nothing.
use mathlib.Core.Path.{refl}
use lib.Ieee.{neg, of_bits, round}
use Rattle.header.specs.Header.{default_degrees, default_header}
use Rattle.header.proofs.Header.new.Goals as goal

pub returns : goal.returns
unfolding neg of_bits round default_degrees default_header
returns c = refl
