-- Search in stores: what each part tells of the whole. Assumes nothing.
use Prim.Native.Nat.{ℕ, suc, ◌≤◌}
use mathlib.Core.Path.{◌≡◌, sym, ◌∙◌}
use mathlib.Core.Bool.{true, false}
use mathlib.Core.List.{List}
use native.Mathlib.Omega.{arith}
use borrow.Author.Tests.{le-leb, leb-true}
use lib.Dec.{leb}
use lib.ListN.{get_or, length, take}
use Rattle.std.specs.List.Sorted.{IsPartitionPoint, IsPartitionedBy}
use Rattle.refusal.specs.Out.{Out, ok, ◌>>=◌, need}
use Rattle.refusal.proofs.OutLaws.{need-bind, need-ok, ok-is}
use Rattle.tile.specs.Answers.{is_id, max_id, new_id}
use Rattle.directory.specs.Entries.{Valid}
use Rattle.directory.specs.Search.{absent, counting, find_stored, search, shortest, stored}
use Rattle.directory.specs.Stores.{checked_all}
use Rattle.directory.proofs.Checks.{check_sound}
use Rattle.directory.proofs.Counting.{counting-sound}
use Rattle.directory.proofs.Slots.{check-all}
use Rattle.search.specs.Answers.{answering}
use Rattle.search.proofs.Hits.{answered}
use Rattle.search.proofs.Last.{below, last_none, last_some, parted}

-- an id that passed is the one that is looked for, and no larger than the largest
pub looked_for : {id t : ℕ} → ok t ≡ new_id id → (t ≡ id) × (id ≤ max_id)
unfolding new_id
looked_for {id} {t} e = let h = need-ok (is_id id) 7 (ok id) t (sym e) in (sym (ok-is h.1), leb-true id max_id h.0)

module _ (n : ℕ) (a b l o : List ℕ) where
  -- the answer to the checks of all entries
  abbrev checks : Out ℕ
  checks = counting n a b l o (checked_all 0 (stored n a b l o))

  pub find_steps : (t : ℕ) → find_stored n a b l o t ≡ need (is_id t) 7 (checks >>= λ _. ok (search (stored n a b l o) t))
  unfolding find_stored
  find_steps t = rw check-all (sym (simp need-bind))

  module _ {next : ℕ} (j : ok next ≡ checks) where
    fits : n ≤ shortest a b l o
    fits = (counting-sound n a b l o (checked_all 0 (stored n a b l o)) next (sym j)).1

    valid : Valid 0 (stored n a b l o)
    valid =
        let s = counting-sound n a b l o (checked_all 0 (stored n a b l o)) next (sym j) in
        (check_sound {A = ℕ} 0 (stored n a b l o) (ok 0) 0 (rw (check-all, s.2))).0

    -- what is asked of the ids that are halved
    pub halved : (t : ℕ) → IsPartitionedBy (λ id. leb id t) (take n a)
    halved t = parted n a b l o t fits valid

    -- and what is found there
    module _ (t : ℕ) (near : t ≤ max_id) (k : ℕ) (w : IsPartitionPoint (λ id. leb id t ≡ true) (λ id. leb id t ≡ false) (take n a) k) where
      found : find_stored n a b l o t ≡ ok (search (stored n a b l o) t)
      found = rw (find_steps t, le-leb t max_id near, ← j)

      pub none_found : k ≡ 0 → ok absent ≡ find_stored n a b l o t
      unfolding search
      none_found z = sym (rw (found, last_none n a b l o t fits valid k w z))

      pub one_found : (i : ℕ) → k ≡ suc i → k ≤ length (take n a) → answering (get_or a i 0) (get_or b i 0) (get_or l i 0) (get_or o i 0) t ≡ find_stored n a b l o t
      unfolding search
      one_found i p m =
          let at : get_or a i 0 ≤ t = below n a b l o t fits valid k w i p m in
          answered _ _ _ _ t (omega arith) ∙ sym (rw (found, last_some n a b l o t fits valid k w i p m))
