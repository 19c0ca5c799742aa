-- What `accept` answers, in the words of the definitions. Assumes nothing.
use Rattle.std.specs.Prelude.{List, Result, length}
use Rattle.refusal.specs.Out.{Out, ok, ◌>>=◌}
use Rattle.refusal.specs.Said.{said}
use Rattle.refusal.specs.declared.Refusal.{Refusal}
use Rattle.directory.specs.Entries.{Entry}
use Rattle.acceptance.specs.Accept.{addressed}
use Rattle.acceptance.specs.declared.Counts.{Counts}

abbrev pub said_accepted : Result Counts Refusal → Out Counts
said_accepted = said (λ c. c)

-- what the builder counts
abbrev pub counts_of : List Entry → Counts
counts_of es = record { n_tile_entries = length es; n_addressed_tiles = addressed es }

abbrev pub counts_in_lem : Out (List Entry) → Out Counts
counts_in_lem x = x >>= λ es. ok (counts_of es)
