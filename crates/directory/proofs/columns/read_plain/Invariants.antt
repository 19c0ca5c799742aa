-- `columns::read_plain` meets its contract. Assumes nothing.
use Rattle.varint.specs.Varint.{narrow}
use Rattle.directory.specs.Columns.{plain_step}
use Rattle.directory.proofs.Turns.{Filled}
use Rattle.directory.proofs.columns.read_plain.Given as goal

abbrev pub invariant-loop-slot : goal.invariant-loop-slot
invariant-loop-slot l = Filled narrow plain_step tt l.bytes l.initial.at.at l.initial.out l.slot-index tt l.at.at l.out
