-- An entry, as it answers a target. Assumes nothing.
use Rattle.std.specs.Prelude.{ℕ}
use Rattle.std.proofs.Math.Option.{some}
use Rattle.refusal.specs.Out.{Out, ok, need}
use Rattle.tile.specs.Answers.{is_id}
use Rattle.directory.specs.Entries.{entry}
use Rattle.directory.specs.Search.{Hit, hit}

unfoldable pub answering : ℕ → ℕ → ℕ → ℕ → ℕ → Out Hit
answering id run len off t = need (is_id id) 7 (ok (hit t (some (entry id run len off))))
