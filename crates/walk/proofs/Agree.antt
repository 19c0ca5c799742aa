-- A search over a directory's bytes answers what a search over the stores answers into which the bytes were read. Assumes nothing.
use Prim.Native.Nat.{ℕ, ◌≤◌}
use mathlib.Core.Path.{◌≡◌}
use mathlib.Core.List.{List, ◌++◌}
use mathlib.Core.Option.{none, some}
use native.Mathlib.Omega.{arith}
use borrow.Author.Tests.{le-leb}
use lib.Dec.{leb}
use lib.ListN.{length, length-append}
use lib.Seq.{take_at}
use Rattle.refusal.specs.Out.{Out, ok, bad, ◌>>=◌}
use Rattle.refusal.proofs.OutLaws.{bind_ok, need-ok}
use Rattle.varint.specs.Varint.{read, wide}
use Rattle.directory.specs.Entries.{Entry, max_count}
use Rattle.directory.specs.Columns.{columns}
use Rattle.directory.specs.Decode.{decode}
use Rattle.directory.specs.Search.{find_in, find_stored, search, shortest, stored}
use Rattle.directory.specs.Answers.{kept}
use Rattle.directory.proofs.Checks.{check-valid}
use Rattle.directory.proofs.Round.{entries-map, ids, length-map, lens, offs, runs}
use Rattle.walk.proofs.Walks.{walked}

-- ---- what is read with some room is read with none to keep

bind-on : {A B : Type 0} (x : Out A) (f g : A → Out B) (b : B) → ((a : A) → f a ≡ ok b → g a ≡ ok b) → x >>= f ≡ ok b → x >>= g ≡ ok b
bind-on (ok a) f g b h e = h a e
bind-on (bad n) f g b h e = let z : ◌≡◌ {A = ℕ} 0 1 = cc in absurd (omega arith)

module _ (k : ℕ) (bs : List ℕ) where
  columns-roomless : (a : List Entry × List ℕ) → columns (some k) bs ≡ ok a → columns none bs ≡ ok a
  unfolding columns
  columns-roomless a =
      bind-on (read wide bs) _ _ a (λ n e.
      let h = need-ok (leb n.0 max_count) 19 _ a e in
      rw h.0 (need-ok (leb n.0 k) 15 _ a h.1).1)

  decode-roomless : (a : List Entry × ℕ) → decode (some k) bs ≡ ok a → decode none bs ≡ ok a
  unfolding decode
  decode-roomless a e =
      let h = bind_ok (columns (some k) bs) _ a e in
      rw (columns-roomless h.0 h.1) h.2

-- ---- the stores

module _ (es : List Entry) (a b c d : List ℕ) where
  stored_is : stored (length es) (ids es ++ a) (runs es ++ b) (lens es ++ c) (offs es ++ d) ≡ es
  stored_is =
      rw (
        take_at (ids es) a (length es) (length-map _ es),
        take_at (runs es) b (length es) (length-map _ es),
        take_at (lens es) c (length es) (length-map _ es),
        take_at (offs es) d (length es) (length-map _ es),
      )
      (entries-map es)

  long-enough : length es ≤ shortest (ids es ++ a) (runs es ++ b) (lens es ++ c) (offs es ++ d)
  long-enough = simp (length-append, length-map) (omega arith)

  pub agree : (k : ℕ) (bs : List ℕ) (t u : ℕ) → decode (some k) bs ≡ ok (es, u)
      → find_in bs t ≡ find_stored (length es) (ids es ++ a) (runs es ++ b) (lens es ++ c) (offs es ++ d) t
  unfolding find_in find_stored
  agree k bs t u e =
      let all : decode none bs ≡ ok (es, u) = decode-roomless k bs (es, u) e in
      let w = walked bs es u all in
      rw (
        all,
        le-leb (length es) max_count w.few,
        le-leb (length es) (shortest (ids es ++ a) (runs es ++ b) (lens es ++ c) (offs es ++ d)) long-enough,
        stored_is,
        check-valid 0 es (ok (search es t)) w.valid,
      )

-- in the words of both contracts: the stores as a reading leaves them
pub read-find : (k : ℕ) (bs : List ℕ) (t : ℕ) (es : List Entry) (u : ℕ) → decode (some k) bs ≡ ok (es, u) → (a b c d : List ℕ)
    → find_in bs t
    ≡ find_stored (length es) (kept (decode (some k) bs) (λ e. e.id) a) (kept (decode (some k) bs) (λ e. e.run) b) (kept (decode (some k) bs) (λ e. e.len) c) (kept (decode (some k) bs) (λ e. e.off) d) t
read-find k bs t es u e a b c d = rw e (agree es _ _ _ _ k bs t u e)
