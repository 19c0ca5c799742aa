-- `columns::read_offsets` meets its contract. Assumes nothing.
use mathlib.Core.Option.{none}
use lib.ListN.{drop}
use Rattle.varint.specs.Varint.{wide}
use Rattle.directory.specs.Columns.{offset_step}
use Rattle.directory.specs.Answers.{end_after}
use Rattle.directory.proofs.Turns.{Filled}
use Rattle.directory.proofs.columns.read_offsets.Given as goal

abbrev pub invariant-loop-i : goal.invariant-loop-i
invariant-loop-i l =
    Filled wide offset_step (none, l.lengths) l.bytes l.initial.at.at l.initial.offsets l.i (end_after l.before, drop l.i l.lengths) l.at.at l.offsets
