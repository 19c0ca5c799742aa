-- Read after write: the shortest form of a number that the width holds is read as that number. Assumes nothing.
use Prim.Native.Nat.{ℕ, zero, suc, ◌+◌, ◌*◌, ◌/◌, ◌%◌, ◌^◌, ◌≤◌, ◌<◌}
use mathlib.Core.Path.{◌≡◌, ap, ◌∙◌}
use mathlib.Core.List.{List, ◌++◌, append_assoc}
use native.Mathlib.Nat.{pow-suc}
use native.Mathlib.Omega.{arith}
use borrow.Author.Tests.{le-leb, leb-true, le-ltb, lt-ltb}
use lib.Dec.{leb}
use lib.ListN.{length, drop, take, length-append, length-drop}
use lib.Seq.{drop_at, length-take-le, sets-eq}
use Rattle.refusal.specs.Out.{Out, ok}
use Rattle.refusal.proofs.OutLaws.{need-ok, ok-is}
use Rattle.varint.specs.Varint.{Width, limit, put, put_var, read, read_at, read_var, wide}
use Rattle.varint.specs.Answers.{writing, written}
use Rattle.varint.proofs.Cases.{by-lt}
use Rattle.varint.proofs.Shortest.{more, one, put-size}
use Rattle.varint.proofs.Writing.{write-fits}

round : (n cap v : ℕ) (rest : List ℕ) → v < (cap + 1) * 128 ^ n → read_var n cap (put_var n v ++ rest) ≡ ok (v, rest)
round zero cap v rest h = rw (le-leb v cap (omega arith))
round (suc n) cap v rest h =
    let above = round n cap (v / 128) rest (omega (arith, rw pow-suc at h)) in
    by-lt v 128 (λ l. rw (one (suc n) v l, lt-ltb v 128 l))
    (λ l. rw (more n v l, le-ltb (128 + v % 128) 128 (omega arith), above) (ap {B = Out (ℕ × List ℕ)} (λ x. ok (x, rest)) (omega arith)))

module _ (w : Width) (v : ℕ) (rest : List ℕ) (h : v < limit w) where
  pub read-put : read w (put w v ++ rest) ≡ ok (v, rest)
  unfolding read put
  read-put = round w.before w.cap v rest h

  -- the same where the form stands at a place
  pub read_at-put : (s : List ℕ) (at : ℕ) → drop at s ≡ put w v ++ rest → read_at w s at ≡ ok (v, at + length (put w v))
  unfolding read_at
  read_at-put s at e =
      let some = (put-size w v).0 in
      rw (e, read-put)
      (ap {B = Out (ℕ × ℕ)} (λ p. ok (v, p)) (omega (arith, length-drop at s, simp length-append at (ap length e))))

-- what was written is read back, at each width at which the number has the same shortest form
module _ (w : Width) (l : List ℕ) (at x p : ℕ) (h : x < limit w) (e : put wide x ≡ put w x) where
  pub read-written : writing l at x ≡ ok p → read_at w (written l at x) at ≡ ok (x, p)
  unfolding writing
  read-written k =
      let fit = need-ok (leb (at + length (put wide x)) (length l)) 15 (ok (at + length (put wide x))) p k in
      let room : at + length (put wide x) ≤ length l = leb-true _ _ fit.0 in
      let there : drop at (written l at x) ≡ put w x ++ drop (at + length (put wide x)) l =
      rw ((write-fits l at x room).1, sets-eq (put wide x) l at room, append_assoc, drop_at (take at l) _ at (length-take-le at l (omega arith)), e) in
      read_at-put w x _ h (written l at x) at there ∙ ap {B = Out (ℕ × ℕ)} (λ n. ok (x, n)) (rw (← e) (ok-is fit.1))
