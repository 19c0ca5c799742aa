-- A count against what a directory may have and against four stores. Assumes nothing.
use Prim.Native.Nat.{ℕ, ◌≤◌, ◌<◌}
use mathlib.Core.Path.{◌≡◌, refl, sym}
use mathlib.Core.List.{List, [], ◌∷◌}
use mathlib.Core.Option.{none}
use borrow.Author.Tests.{le-leb, leb-true, lt-leb}
use native.Mathlib.Omega.{arith}
use lib.Dec.{leb}
use lib.ListN.{length}
use Rattle.refusal.specs.Out.{Out, ok, bad, ◌>>=◌, need}
use Rattle.refusal.proofs.OutLaws.{need-bind, need-ok}
use Rattle.varint.specs.Varint.{read}
use Rattle.directory.specs.Entries.{max_count}
use Rattle.directory.specs.Columns.{columns}
use Rattle.directory.specs.Decode.{decode}
use Rattle.directory.specs.Search.{counting, shortest}
use Rattle.directory.specs.Stores.{reading}

-- a count that the shortest store has room for fits each
pub in-each : (n : ℕ) (a b c d : List ℕ) → n ≤ shortest a b c d → (n ≤ length a) × (n ≤ length b) × (n ≤ length c) × (n ≤ length d)
in-each n a b c d h = omega arith

module _ {A : Type 0} (n : ℕ) (a b c d : List ℕ) (x : Out A) where
  pub many : max_count < n → counting n a b c d x ≡ bad 19
  many h = rw (lt-leb n max_count h)

  module _ (h : n ≤ max_count) where
    pub short : shortest a b c d < n → counting n a b c d x ≡ bad 15
    short k = rw (le-leb n max_count h, lt-leb n (shortest a b c d) k)

    pub enough : n ≤ shortest a b c d → counting n a b c d x ≡ x
    enough k = rw (le-leb n max_count h, le-leb n (shortest a b c d) k)

  pub counting-sound : (y : A) → counting n a b c d x ≡ ok y → (n ≤ max_count) × (n ≤ shortest a b c d) × (x ≡ ok y)
  counting-sound y p =
      let h = need-ok (leb n max_count) 19 (need (leb n (shortest a b c d)) 15 x) y p in
      let k = need-ok (leb n (shortest a b c d)) 15 x y h.1 in
      (leb-true _ _ h.0, leb-true _ _ k.0, k.1)

  -- the count first, then what comes next
  pub counting-then : counting n a b c d x ≡ counting {A = ℕ} n a b c d (ok 0) >>= λ _. x
  counting-then = sym (simp need-bind)

-- ---- the largest count: 16,777,216 is taken, one more is not

module _ {A : Type 0} (a b c d : List ℕ) (x : Out A) where
  pub most-taken : 16777216 ≤ shortest a b c d → counting 16777216 a b c d x ≡ x
  most-taken h = enough 16777216 a b c d x (omega arith) h

  pub one-too-many : counting 16777217 a b c d x ≡ bad 19
  one-too-many = many 16777217 a b c d x (omega arith)

-- in bytes too: where the count is taken, it is the first id that is missing
pub counts-read : (decode none (128 ∷ 128 ∷ 128 ∷ 8 ∷ []) ≡ bad 8) × (decode none (129 ∷ 128 ∷ 128 ∷ 8 ∷ []) ≡ bad 19)
unfolding decode columns read
counts-read = (refl, refl)

-- no bytes are no directory
pub no-directory : (ids runs lens offs : List ℕ) → reading [] ids runs lens offs ≡ bad 8
unfolding decode columns read
no-directory ids runs lens offs = refl
