-- The answer that an entry is. Assumes nothing.
use Prim.Native.Nat.{ℕ, ◌+◌, ◌-◌, ◌≤◌, ◌<◌}
use mathlib.Core.Path.{◌≡◌, sym}
use mathlib.Core.Option.{some}
use native.Mathlib.Omega.{arith}
use borrow.Author.Tests.{eq-eqb, le-leb, le-ltb, lt-ltb, ne_eqb}
use Rattle.refusal.specs.Out.{ok, bad, ◌>>=◌}
use Rattle.refusal.proofs.OutLaws.{need-bind, need-ok, ok-is}
use Rattle.tile.specs.Answers.{is_id, max_id, new_id}
use Rattle.directory.specs.Entries.{entry}
use Rattle.directory.specs.Search.{absent, hit, leaf, tile}
use Rattle.search.specs.Answers.{answering}

module _ (id run len off t : ℕ) where
  named : answering id run len off t ≡ new_id id >>= λ _. ok (hit t (some (entry id run len off)))
  unfolding answering new_id
  named = sym (need-bind (is_id id) 7 (ok id) (λ _. ok (hit t (some (entry id run len off)))))

  -- an id that is not above the largest
  pub answered : id ≤ max_id → answering id run len off t ≡ ok (hit t (some (entry id run len off)))
  unfolding answering
  answered h = rw (le-leb id max_id h)

  pub no-id : {q : ℕ} → bad q ≡ new_id id → bad q ≡ answering id run len off t
  no-id e = rw (named, ← e)

  module _ {i : ℕ} (e : ok i ≡ new_id id) where
    same : i ≡ id
    unfolding new_id
    same = sym (ok-is (need-ok (is_id id) 7 (ok id) i (sym e)).1)

    pub as-leaf : run ≡ 0 → ok (leaf (entry i run len off)) ≡ answering id run len off t
    as-leaf z = rw (named, ← e, same, eq-eqb run 0 z)

    module _ (covers : run ≡ 0 → ⊥) where
      pub as-tile : t < id + run → ok (tile (entry i run len off)) ≡ answering id run len off t
      as-tile h = rw (named, ← e, same, ne_eqb run 0 covers, lt-ltb (t - id) run (omega arith))

      pub as-absent : id + run ≤ t → ok absent ≡ answering id run len off t
      as-absent h = rw (named, ← e, ne_eqb run 0 covers, le-ltb (t - id) run (omega arith))

-- what `answer` goes by
pub ruleset hits = (as-leaf, as-tile, as-absent, no-id)
