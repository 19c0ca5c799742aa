-- Reading a directory, in three steps: its columns, the rule of the end, the checks by entry. Assumes nothing.
use Rattle.std.specs.Prelude.{ℕ, ◌-◌, List, length}
use Rattle.std.proofs.Math.Option.{Option}
use Rattle.refusal.specs.Out.{Out, ok, ◌>>=◌}
use Rattle.directory.specs.Entries.{Entry, check}
use Rattle.directory.specs.Columns.{columns}

-- the rule of the end: what comes after the columns is ignored, and the number of bytes read is told
unfoldable pub ended : List ℕ → List ℕ → Out ℕ
ended bs rest = ok (length bs - length rest)

-- the entries, and what the rule of the end tells
unfoldable pub decode : Option ℕ → List ℕ → Out (List Entry × ℕ)
decode room bs = columns room bs >>= λ (es, rest). ended bs rest >>= λ u. check 0 es (ok (es, u))
