-- `columns::read_ids` meets its contract. Assumes nothing.
use Rattle.varint.specs.Varint.{wide}
use Rattle.directory.specs.Columns.{id_step}
use Rattle.directory.proofs.Turns.{Filled}
use Rattle.directory.proofs.columns.read_ids.Given as goal

abbrev pub invariant-loop-slot : goal.invariant-loop-slot
invariant-loop-slot l = Filled wide id_step 0 l.bytes l.initial.at.at l.initial.ids l.slot-index l.id l.at.at l.ids
