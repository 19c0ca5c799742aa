-- Two answers that meet a promise coincide: each answer is known by what it says. Assumes nothing.
use mathlib.Core.Path.{◌≡◌, refl}
use mathlib.Core.Option.{Option as Maybe, none, some}
use Rattle.std.specs.Prelude.{Result, Option, Some, None}
use Rattle.refusal.specs.declared.Refusal.{Refusal}
use Rattle.refusal.proofs.Numbers.{one-said}
use Rattle.directory.specs.Entries.{Entry}
use Rattle.directory.specs.declared.Row.{Row}
use Rattle.walk.specs.Walk.{next_of, said_next, said_opened}
use Rattle.walk.specs.declared.cursors.Columns.{Columns}

pub one-opened : (a b : Result Columns Refusal) → said_opened a ≡ said_opened b → a ≡ b
one-opened = one-said (λ k. k) (λ k. k) (λ k. refl)

-- `next_of` undone
abbrev next_from : Maybe (Entry × Columns) → Option (Row × Columns)
next_from (some (e, k)) = Some (record { id = e.id; run_length = e.run; length = e.len; offset = record { 0 = e.off } }, k)
next_from none = None

next-back : (x : Option (Row × Columns)) → next_from (next_of x) ≡ x
next-back (Some (r, k)) = refl
next-back None = refl

pub one-next : (a b : Result (Option (Row × Columns)) Refusal) → said_next a ≡ said_next b → a ≡ b
one-next = one-said next_of next_from next-back
