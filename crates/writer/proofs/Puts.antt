-- Bytes put one piece after another: what is put so far, and the pieces still to come. Assumes nothing.
use Prim.Native.Nat.{ℕ, suc, ◌+◌, ◌≤◌}
use mathlib.Core.Path.{◌≡◌, refl, ap, sym, ◌∙◌}
use mathlib.Core.List.{List, [], ◌∷◌, ◌++◌, append-nil}
use native.Mathlib.Omega.{arith}
use lib.ListN.{length, length-append, set}
use lib.Seq.{length-sets, sets}
use Rattle.std.specs.Prelude.{Result, Ok, Err, IsOk}
use Rattle.refusal.specs.Out.{ok}
use Rattle.refusal.specs.Said.{said}
use Rattle.refusal.specs.declared.Refusal.{Refusal}
use Rattle.varint.specs.Varint.{Width, put}
use Rattle.directory.specs.Encode.{put_all}
use Rattle.writer.specs.Cells.{Wrote}

pub said-ok : {A B : Type 0} (f : A → B) (r : Result A Refusal) (b : B) → said f r ≡ ok b → IsOk r
said-ok f (Ok a) b e = refl
said-ok f (Err r) b e = absurd (cc)

sets-append : (a b l : List ℕ) (i : ℕ) → sets l i (a ++ b) ≡ sets (sets l i a) (i + length a) b
sets-append [] b l i = ap (λ (k : ℕ). sets l k b) (omega arith)
sets-append (x ∷ a) b l i = sets-append a b (set l i x) (suc i) ∙ ap (λ (k : ℕ). sets (sets (set l i x) (suc i) a) k b) (omega arith)

-- the bytes of the pieces
abbrev pub bytes_of : List (List ℕ) → List ℕ
bytes_of [] = []
bytes_of (x ∷ []) = x
bytes_of (x ∷ y ∷ zs) = x ++ bytes_of (y ∷ zs)

bytes-more : (x : List ℕ) (xs : List (List ℕ)) → bytes_of (x ∷ xs) ≡ x ++ bytes_of xs
bytes-more x [] = sym (append-nil x)
bytes-more x (y ∷ zs) = refl

-- once the rest is put at the place, the buffer holds the whole where it was to start
pub record Kept (old : List ℕ) (start : ℕ) (whole new : List ℕ) (at : ℕ) (rest : List (List ℕ)) : Type 0 where
  pub same : length new ≡ length old
  pub past : at + length (bytes_of rest) ≡ start + length whole
  pub held : sets new at (bytes_of rest) ≡ sets old start whole

pub begin : (old : List ℕ) (start : ℕ) (whole : List ℕ) (rest : List (List ℕ)) → whole ≡ bytes_of rest → Kept old start whole old start rest
begin old start whole rest e = rw e (record { same = refl; past = refl; held = refl })

module _ {old : List ℕ} {start : ℕ} {whole new : List ℕ} {at : ℕ} {x : List ℕ} {xs : List (List ℕ)} (k : Kept old start whole new at (x ∷ xs)) where
  sum : length (bytes_of (x ∷ xs)) ≡ length x + length (bytes_of xs)
  sum = ap length (bytes-more x xs) ∙ length-append x (bytes_of xs)

  pub room : start + length whole ≤ length old → at + length x ≤ length new
  room h = omega (arith, k.same, k.past, sum)

  pub onward : {new' : List ℕ} {next : ℕ} → Wrote new at x new' next → Kept old start whole new' next xs
  onward w =
      record {
        same = ap length w.held ∙ length-sets new at x ∙ k.same;
        past = omega (arith, k.past, w.past, sum);
        held = rw (w.held, w.past) (sym (sets-append x (bytes_of xs) new at) ∙ ap (sets new at) (sym (bytes-more x xs)) ∙ k.held);
      }

module _ {old : List ℕ} {start : ℕ} {whole new : List ℕ} {at : ℕ} where
  pub done : Kept old start whole new at [] → Wrote old start whole new at
  done k = record { past = omega (arith, k.past); held = k.held }

  pub last_empty : {x : List ℕ} → Kept old start whole new at (x ∷ []) → x ≡ [] → Wrote old start whole new at
  last_empty k e = record { past = omega (arith, k.past, ap length e); held = sym (ap (sets new at) e) ∙ k.held }

  -- the same bytes in other pieces
  pub recut : (xs ys : List (List ℕ)) → bytes_of xs ≡ bytes_of ys → Kept old start whole new at xs → Kept old start whole new at ys
  recut xs ys e k = record { same = k.same; past = omega (arith, k.past, ap length e); held = sym (ap (sets new at) e) ∙ k.held }

  -- a column's next number
  pub number : (w : Width) {xs ys : List ℕ} {x : ℕ} → Kept old start whole new at (put_all w xs ∷ []) → xs ≡ x ∷ ys
      → Kept old start whole new at (put w x ∷ put_all w ys ∷ [])
  number w k e = recut _ _ (ap (put_all w) e) k

  -- a byte more
  pub byte : {xs ys : List ℕ} {x : ℕ} → Kept old start whole new at (xs ∷ []) → xs ≡ x ∷ ys → Kept old start whole new at ((x ∷ []) ∷ ys ∷ [])
  byte k e = recut _ _ e k
