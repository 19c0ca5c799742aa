-- One directory of the descent: what its search's answer leads to, however many directories may follow. Assumes nothing.
use Prim.Native.Nat.{ℕ, zero, suc, ◌+◌, ◌-◌, ◌<◌}
use mathlib.Core.Path.{◌≡◌, ◌∙◌}
use mathlib.Core.List.{List}
use mathlib.Core.Option.{Option, none}
use native.Mathlib.Omega.{arith}
use lib.ListN.{length}
use Rattle.refusal.specs.Out.{Out, ok, bad, ◌>>=◌}
use Rattle.directory.specs.Entries.{Entry}
use Rattle.directory.specs.Search.{Hit, absent, find_in, leaf, tile}
use Rattle.reader.specs.Ranges.{Range, Sections, part, range_in_lem}
use Rattle.reader.specs.Lookup.{descend, located, on_hit}

module _ (s : Sections) (a : List ℕ) (t : ℕ) (bs : List ℕ) where
  pub on-absent : (n : ℕ) → ok absent ≡ find_in bs t → ok none ≡ descend n s a t bs
  on-absent zero e = rw (← e)
  on-absent (suc n) e = rw (← e)

  pub on-tile : (n : ℕ) (e : Entry) → ok (tile e) ≡ find_in bs t → located (range_in_lem s.tiles (length a) e) ≡ descend n s a t bs
  on-tile zero x e = rw (← e)
  on-tile (suc n) x e = rw (← e)

  pub on-last : (n : ℕ) (e : Entry) → n ≡ 0 → ok (leaf e) ≡ find_in bs t → bad 18 ≡ descend n s a t bs
  on-last zero x z e = rw (← e)
  on-last (suc n) x z e = absurd (omega arith)

  pub on-leaf : (n : ℕ) (e : Entry) → 0 < n → ok (leaf e) ≡ find_in bs t
      → range_in_lem s.leaves (length a) e >>= (λ r. descend (n - 1) s a t (part a r)) ≡ descend n s a t bs
  on-leaf zero x h e = absurd (omega arith)
  on-leaf (suc n) x h e = let one : suc n - 1 ≡ n = omega arith in rw (← e, one)

-- what a search's answer leads to, when n directories may follow
abbrev pub onward : ℕ → Sections → List ℕ → ℕ → Hit → Out (Option Range)
onward zero s a t = on_hit s (length a) (λ e. bad 18)
onward (suc n) s a t = on_hit s (length a) (λ e. range_in_lem s.leaves (length a) e >>= λ r. descend n s a t (part a r))

module _ (s : Sections) (a : List ℕ) (t : ℕ) where
  pub searched : (n : ℕ) (bs : List ℕ) (h : Hit) → ok h ≡ find_in bs t → onward n s a t h ≡ descend n s a t bs
  searched zero bs h e = rw (← e)
  searched (suc n) bs h e = rw (← e)

  pub unsearched : (n : ℕ) (bs : List ℕ) (m : ℕ) → bad m ≡ find_in bs t → bad m ≡ descend n s a t bs
  unsearched zero bs m e = rw (← e)
  unsearched (suc n) bs m e = rw (← e)

  pub onward_leaf : (n : ℕ) (e : Entry) → 0 < n → range_in_lem s.leaves (length a) e >>= (λ r. descend (n - 1) s a t (part a r)) ≡ onward n s a t (leaf e)
  onward_leaf zero e h = absurd (omega arith)
  onward_leaf (suc n) e h = let one : suc n - 1 ≡ n = omega arith in rw one

  pub one_leaf_on : (n i : ℕ) (e : Entry) (r : Range) (h : Hit) → i < n → range_in_lem s.leaves (length a) e ≡ ok r → ok h ≡ find_in (part a r) t
      → onward (n - (i + 1)) s a t h ≡ onward (n - i) s a t (leaf e)
  one_leaf_on n i e r h l p q =
      let one : n - i - 1 ≡ n - (i + 1) = omega arith in
      searched (n - (i + 1)) (part a r) h q ∙ (rw (one, p) at (onward_leaf (n - i) e (omega arith)))
