-- What the builder accepts, both ways. Assumes nothing.
use Prim.Native.Nat.{ℕ, ◌≤◌}
use mathlib.Core.Path.{◌≡◌, ap, ◌∙◌}
use mathlib.Core.List.{List}
use native.Mathlib.Omega.{arith}
use lib.ListN.{drop}
use Rattle.refusal.specs.Out.{ok, ◌>>=◌}
use Rattle.refusal.proofs.OutLaws.{bind-cong, bind_assoc, ok-is}
use Rattle.directory.specs.Entries.{Entry}
use Rattle.directory.specs.Search.{counting, shortest, stored}
use Rattle.directory.proofs.Slots.{stored-length}
use Rattle.directory.proofs.Counting.{counting-sound, counting-then, enough}
use Rattle.acceptance.specs.Accept.{Accepts, accepting, addressed, check_tiles_lem}
use Rattle.acceptance.specs.Answers.{counts_in_lem, counts_of}
use Rattle.acceptance.proofs.Tiles.{addressed_end, addressed_turn, tile_next, tiles_turn, slots_end, tiles-pass, tiles-sound, tiles-then}

module _ (n : ℕ) (a b c d : List ℕ) (size : ℕ) where
  -- what is accepted is what the stores hold, and acceptable
  pub accepting-sound : (es : List Entry) → accepting n a b c d size ≡ ok es → (n ≤ shortest a b c d) × (stored n a b c d ≡ es) × Accepts size es
  unfolding accepting
  accepting-sound es p =
      let k = counting-sound n a b c d (check_tiles_lem size 0 (stored n a b c d) (ok (stored n a b c d))) es p in
      let s = tiles-sound size 0 (stored n a b c d) (ok (stored n a b c d)) es k.2 in
      let q = ok-is s.2 in
      let t : Accepts size (stored n a b c d) = record { few = omega (arith, stored-length n a b c d k.1, k.0); valid = s.0; taken = s.1 } in
      (k.1, q, rw q at t)

  -- and what is acceptable is accepted
  pub accepting-all : n ≤ shortest a b c d → Accepts size (stored n a b c d) → accepting n a b c d size ≡ ok (stored n a b c d)
  unfolding accepting
  accepting-all h t =
      enough n a b c d _ (omega (arith, stored-length n a b c d h, t.few)) h ∙ tiles-pass size 0 (stored n a b c d) (ok (stored n a b c d)) t.valid t.taken

  -- the counts: the number of entries is tested first, then each entry
  pub accept_steps : counts_in_lem (accepting n a b c d size) ≡ counting {A = ℕ} n a b c d (ok 0) >>= λ _. check_tiles_lem size 0 (stored n a b c d) (ok (counts_of (stored n a b c d)))
  unfolding accepting
  accept_steps =
      rw (counting-then n a b c d (check_tiles_lem size 0 (stored n a b c d) (ok (stored n a b c d))))
      (simp bind_assoc (bind-cong (counting {A = ℕ} n a b c d (ok 0)) _ _ (λ _ _. tiles-then size 0 (stored n a b c d) (ok (stored n a b c d)) (λ es. ok (counts_of es)))))

  -- and after the last slot they are these
  pub counts_end : (lo i : ℕ) → n ≤ shortest a b c d → n ≤ i
      → check_tiles_lem size lo (drop i (stored n a b c d)) (ok (counts_of (stored n a b c d))) ≡ ok (record { n_tile_entries = n; n_addressed_tiles = addressed (stored n a b c d) })
  counts_end lo i h m =
      ap (λ es. check_tiles_lem size lo es (ok (counts_of (stored n a b c d)))) (slots_end n a b c d h i m)
      ∙ ap (λ (k : ℕ). ok (record { n_tile_entries = k; n_addressed_tiles = addressed (stored n a b c d) })) (stored-length n a b c d h)

-- what `accept` goes by, entry by entry
pub ruleset one_pass = (accept_steps, counts_end, tile_next, tiles_turn, addressed_turn, addressed_end)
