-- `sections::copy_up` meets its contract. Assumes nothing.
use mathlib.Core.Path.{◌≡◌}
use mathlib.Core.List.{◌++◌}
use lib.ListN.{drop, take}
use Rattle.publisher.proofs.sections.copy_up.Given as goal

abbrev pub invariant-loop-i : goal.invariant-loop-i
invariant-loop-i l = l.dest ≡ take l.i l.src ++ drop l.i l.initial.dest
