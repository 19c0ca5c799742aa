-- Lookup, step by step: the sections, the descent. Assumes nothing.
use Prim.Native.Nat.{ℕ, ◌≤◌}
use mathlib.Core.Path.{◌≡◌}
use mathlib.Core.List.{List}
use borrow.Author.Tests.{le-leb}
use Rattle.refusal.specs.Out.{ok, bad}
use Rattle.tile.specs.Answers.{max_id, to_id}
use Rattle.reader.specs.Ranges.{Sections, opened, part}
use Rattle.reader.specs.Lookup.{descend, lookup, lookup_coord_lem}

module _ (a : List ℕ) (t : ℕ) (valid : t ≤ max_id) where
  pub not_opened : (n : ℕ) → bad n ≡ opened a → bad n ≡ lookup a t
  unfolding lookup
  not_opened n e = rw (le-leb t max_id valid, ← e)

  pub from-root : (s : Sections) → ok s ≡ opened a → descend 3 s a t (part a s.root) ≡ lookup a t
  unfolding lookup
  from-root s e = rw (le-leb t max_id valid, ← e)

-- a coordinate is looked up by its id
module _ (a : List ℕ) (z x y : ℕ) where
  pub coord-is-id : (i : ℕ) → ok i ≡ to_id z x y → lookup a i ≡ lookup_coord_lem a z x y
  unfolding lookup_coord_lem
  coord-is-id i e = rw (← e)

  pub no-coord : (n : ℕ) → bad n ≡ to_id z x y → bad n ≡ lookup_coord_lem a z x y
  unfolding lookup_coord_lem
  no-coord n e = rw (← e)
