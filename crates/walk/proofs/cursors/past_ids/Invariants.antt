-- `cursors::past_ids` meets its contract: from any turn on the rest of the column ends where the whole ends. Assumes nothing.
use Prim.Native.Nat.{◌-◌}
use mathlib.Core.Path.{◌≡◌}
use Rattle.varint.specs.Varint.{wide}
use Rattle.directory.specs.Columns.{id_step}
use Rattle.walk.specs.Walk.{past}
use Rattle.walk.proofs.cursors.past_ids.Given as goal

abbrev pub invariant-loop : goal.invariant-loop
invariant-loop l = past wide id_step l.n 0 l.bytes l.initial.at.at ≡ past wide id_step (l.n - l.counter) l.before l.bytes l.at.at
