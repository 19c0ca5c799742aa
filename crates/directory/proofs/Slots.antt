-- The entries in the first slots of four stores, and a loop that checks them turn by turn. Assumes nothing.
use Prim.Native.Nat.{ℕ, zero, suc, ◌+◌, ◌≤◌, ◌<◌}
use mathlib.Core.Path.{◌≡◌, refl, ap, sym, ◌∙◌}
use mathlib.Core.List.{List, [], ◌∷◌, map}
use native.Mathlib.Numerals.{add-one}
use native.Mathlib.Omega.{arith}
use lib.ListN.{get_or-map, drop, get_or, length, length-map, take}
use lib.Seq.{drop-cons, get_or-take, length-take-le}
use Rattle.std.proofs.lemmas.List.{drop_all}
use Rattle.refusal.specs.Out.{Out, ◌>>=◌}
use Rattle.refusal.proofs.OutLaws.{bind_assoc, need-bind}
use Rattle.directory.specs.Entries.{after, Entry, check, entry}
use Rattle.directory.specs.Search.{shortest, stored}
use Rattle.directory.specs.Answers.{checked}
use Rattle.directory.specs.Stores.{checked_all}
use Rattle.directory.proofs.Counting.{in-each}

-- the numbers of entries, one column each
pub record Fields (es : List Entry) (a b l o : List ℕ) : Type 0 where
  pub ids : map (λ e. e.id) es ≡ a
  pub runs : map (λ e. e.run) es ≡ b
  pub lens : map (λ e. e.len) es ≡ l
  pub offs : map (λ e. e.off) es ≡ o

fields-of : (n : ℕ) (a b l o : List ℕ) → n ≤ length a → n ≤ length b → n ≤ length l → n ≤ length o
    → Fields (stored n a b l o) (take n a) (take n b) (take n l) (take n o)
fields-of zero a b l o p q r s = record { ids = refl; runs = refl; lens = refl; offs = refl }
fields-of (suc n) [] b l o p q r s = absurd (omega arith)
fields-of (suc n) (x ∷ a) [] l o p q r s = absurd (omega arith)
fields-of (suc n) (x ∷ a) (y ∷ b) [] o p q r s = absurd (omega arith)
fields-of (suc n) (x ∷ a) (y ∷ b) (z ∷ l) [] p q r s = absurd (omega arith)
fields-of (suc n) (x ∷ a) (y ∷ b) (z ∷ l) (w ∷ o) p q r s =
    let f = fields-of n a b l o (omega arith) (omega arith) (omega arith) (omega arith) in
    record { ids = rw f.ids; runs = rw f.runs; lens = rw f.lens; offs = rw f.offs }

pub fields : (n : ℕ) (a b l o : List ℕ) → n ≤ shortest a b l o → Fields (stored n a b l o) (take n a) (take n b) (take n l) (take n o)
fields n a b l o h = let f = in-each n a b l o h in fields-of n a b l o f.0 f.1 f.2 f.3

module _ (n : ℕ) (a b l o : List ℕ) (h : n ≤ shortest a b l o) where
  pub stored-length : length (stored n a b l o) ≡ n
  stored-length = sym (length-map (stored n a b l o) (λ e. e.id)) ∙ ap length (fields n a b l o h).ids ∙ length-take-le n a (in-each n a b l o h).0

  module _ (i : ℕ) (m : i < n) where
    field_at : (f : Entry → ℕ) (xs : List ℕ) → map f (stored n a b l o) ≡ take n xs → f (entry 0 0 0 0) ≡ 0 → f (get_or (stored n a b l o) i (entry 0 0 0 0)) ≡ get_or xs i 0
    field_at f xs e z = sym (get_or-map f (stored n a b l o) i (entry 0 0 0 0)) ∙ rw (e, z) (get_or-take n xs i 0 m)

    -- what stands in a slot
    pub slot : drop i (stored n a b l o) ≡ entry (get_or a i 0) (get_or b i 0) (get_or l i 0) (get_or o i 0) ∷ drop (suc i) (stored n a b l o)
    slot =
        let f = fields n a b l o h in
        let e = get_or (stored n a b l o) i (entry 0 0 0 0) in
        rw (← field_at (λ e. e.id) a f.ids refl, ← field_at (λ e. e.run) b f.runs refl, ← field_at (λ e. e.len) l f.lens refl, ← field_at (λ e. e.off) o f.offs refl)
        (drop-cons (stored n a b l o) i (entry 0 0 0 0) (rw stored-length m))

-- the same of a loop's slot
pub slot_first : (n : ℕ) (a b l o : List ℕ) (i : ℕ) → n ≤ shortest a b l o → i < n
    → drop i (stored n a b l o) ≡ entry (get_or a i 0) (get_or b i 0) (get_or l i 0) (get_or o i 0) ∷ drop (i + 1) (stored n a b l o)
slot_first n a b l o i h m = rw add-one (slot n a b l o h i m)

-- ---- checks

-- the checks, and then what comes next
pub check-all : {A : Type 0} (lo : ℕ) (es : List Entry) (x : Out A) → check lo es x ≡ checked_all lo es >>= λ _. x
unfolding checked
check-all lo [] x = refl
check-all lo (e ∷ es) x = simp (bind_assoc, need-bind) (rw (check-all (after e) es x))

-- what finds that the entries in the slots have passed, or which one has not
pub ruleset passing = (slot_first, stored-length, drop_all)
