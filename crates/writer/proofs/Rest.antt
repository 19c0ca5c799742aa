-- What a callee left in the rest of a slice that was lent to it, as a change of the whole. Assumes nothing.
use Prim.Native.Nat.{ℕ, ◌+◌, ◌-◌, ◌≤◌}
use mathlib.Core.Path.{◌≡◌, ap, ap₂, sym, ◌∙◌}
use mathlib.Core.List.{List, [], ◌++◌, append_assoc, append-nil}
use native.Mathlib.Omega.{arith}
use borrow.Author.Rules.{part_to_end}
use borrow.Rule.Slice.PartMut.{post_of, put_mid}
use lib.ListN.{drop, drop_of_length-le, length, length-drop, length-replicate, length-take, replicate, take}
use lib.Seq.{drop-drop, sets, sets-eq}
use Rattle.writer.specs.Answers.{laid}
use Rattle.writer.specs.Cells.{Wrote}
use Rattle.writer.proofs.Written.{landing}

module _ (xs : List ℕ) (a : ℕ) where
  pub rest-room : (m : ℕ) → a + m ≤ length xs → m ≤ length (take (length xs - a) (drop a xs))
  rest-room m h = rw (part_to_end xs a) (rw length-drop (omega arith))

  module _ (bytes : List ℕ) (h : a + length bytes ≤ length xs) where
    laid-rest : take a xs ++ laid bytes (drop a xs) ≡ sets xs a bytes
    laid-rest =
        ap (λ l. take a xs ++ (bytes ++ l)) (drop-drop (length bytes) a xs)
        ∙ sym (append_assoc (take a xs) bytes (drop (a + length bytes) xs))
        ∙ sym (sets-eq bytes xs a h)

    -- a slice's middle that holds other bytes now, as many as before
    pub mid-put : (k : ℕ) → length bytes ≡ k → put_mid a k xs bytes ≡ sets xs a bytes
    mid-put k e = rw (← e) laid-rest

    pub rest-wrote : (ys : List ℕ) (r : ℕ) → Wrote (take (length xs - a) (drop a xs)) 0 bytes ys r → Wrote xs a bytes (put_mid a (length xs - a) xs ys) (a + r)
    rest-wrote ys r w =
        let y : ys ≡ laid bytes (drop a xs) = w.held ∙ ap (λ l. sets l 0 bytes) (part_to_end xs a) ∙ landing bytes (drop a xs) (rw length-drop (omega arith)) in
        let p : post_of a (length xs - a) xs ≡ [] = drop_of_length-le (drop a xs) {i = length xs - a} (rw length-drop (omega arith)) in
        record {
          past = omega (arith, w.past);
          held = ap₂ {C = List ℕ} (λ u v. take a xs ++ (u ++ v)) y p ∙ ap (λ l. take a xs ++ l) (append-nil (laid bytes (drop a xs))) ∙ laid-rest;
        }

pub zeros-put : (xs : List ℕ) (a n : ℕ) → a + n ≤ length xs → (ys : List ℕ) → ys ≡ replicate (length (take (a + n - a) (drop a xs))) 0
    → put_mid a (a + n - a) xs ys ≡ sets xs a (replicate n 0)
zeros-put xs a n h ys e =
    let m : a + n - a ≡ n = omega arith in
    let l : length (take n (drop a xs)) ≡ n = rw (length-take, length-drop) (omega arith) in
    let r : length (replicate {A = ℕ} n 0) ≡ n = length-replicate n 0 in
    rw (e, m, l) (mid-put xs a (replicate n 0) (omega arith) n r)
