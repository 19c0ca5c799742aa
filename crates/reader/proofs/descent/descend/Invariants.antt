-- `descent::descend` meets its contract: from any search on the way down the rest is answered as the whole. Assumes nothing.
use Prim.Native.Nat.{◌-◌}
use mathlib.Core.Path.{◌≡◌}
use Rattle.directory.specs.Answers.{found_of}
use Rattle.reader.specs.Lookup.{descend}
use Rattle.reader.specs.Answers.{sections_given}
use Rattle.reader.proofs.Descents.{onward}
use Rattle.reader.proofs.descent.descend.Given as goal

abbrev pub invariant-loop : goal.invariant-loop
invariant-loop l = onward (3 - l.counter) (sections_given l.s) l.archive l.target.0 (found_of l.found) ≡ descend 3 (sections_given l.s) l.archive l.target.0 l.root
