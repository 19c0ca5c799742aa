-- `checking::check_entries` meets its contract. Assumes nothing.
use mathlib.Core.Path.{◌≡◌}
use lib.ListN.{drop}
use Rattle.directory.specs.Search.{stored}
use Rattle.directory.specs.Answers.{over}
use Rattle.directory.specs.Stores.{checked_all}
use Rattle.directory.proofs.checking.check_entries.Given as goal

-- the entries before slot i have passed, and the least id that may come is lo
abbrev pub invariant-loop-i : goal.invariant-loop-i
invariant-loop-i l = checked_all 0 (over l.stores stored) ≡ checked_all l.lo (drop l.i (over l.stores stored))
