-- `accepting::accept` meets its contract. The loop keeps that the checks of the rest are those of the whole, and so with the sum of the runs. Assumes nothing.
use Prim.Native.Nat.{◌+◌, ◌≤◌}
use mathlib.Core.Path.{◌≡◌}
use lib.ListN.{drop}
use Rattle.refusal.specs.Out.{ok}
use Rattle.directory.specs.Answers.{over}
use Rattle.directory.specs.Search.{shortest, stored}
use Rattle.acceptance.specs.Accept.{accepting, addressed, check_tiles_lem}
use Rattle.acceptance.specs.Answers.{counts_in_lem, counts_of}
use Rattle.acceptance.proofs.accepting.accept.Given as goal

abbrev pub invariant-loop-i : goal.invariant-loop-i
invariant-loop-i l =
    let es = over l.stores stored in
    record {
      in_range : l.stores.count ≤ over l.stores (λ _. shortest);
      covered : l.sum ≤ l.lo;
      summed : l.sum + addressed (drop l.i es) ≡ addressed es;
      checks : check_tiles_lem l.data_length l.lo (drop l.i es) (ok (counts_of es)) ≡ counts_in_lem (over l.stores accepting l.data_length);
    }
