-- `cursors::past_numbers` meets its contract: from any turn on the rest of the column ends where the whole ends. Assumes nothing.
use Prim.Native.Nat.{◌-◌}
use mathlib.Core.Path.{◌≡◌}
use Rattle.varint.specs.Varint.{narrow}
use Rattle.directory.specs.Columns.{plain_step}
use Rattle.walk.specs.Walk.{past}
use Rattle.walk.proofs.cursors.past_numbers.Given as goal

abbrev pub invariant-loop : goal.invariant-loop
invariant-loop l = past narrow plain_step l.n tt l.bytes l.initial.at.at ≡ past narrow plain_step (l.n - l.counter) tt l.bytes l.at.at
