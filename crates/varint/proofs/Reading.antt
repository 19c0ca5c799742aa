-- What is known of a number that was read: its bound, the bytes left, and the place after it. Assumes nothing.
use Prim.Native.Nat.{ℕ, zero, suc, ◌+◌, ◌-◌, ◌*◌, ◌^◌, ◌≤◌, ◌<◌}
use mathlib.Core.Path.{◌≡◌, refl, ap, sym, ◌∙◌}
use mathlib.Core.List.{List, [], ◌∷◌}
use native.Mathlib.Nat.{pow-suc, one-le-pow}
use native.Mathlib.Omega.{arith}
use borrow.Author.Tests.{leb-true, le-ltb, lt-ltb}
use lib.Dec.{leb}
use lib.ListN.{length, get_or, drop, length-drop}
use lib.Seq.{drop-drop, get_or-drop}
use Rattle.refusal.specs.Out.{Out, ok, bad, ◌>>=◌}
use Rattle.refusal.proofs.OutLaws.{bind_ok, need-ok, ok-is}
use Rattle.varint.specs.Varint.{Width, limit, narrow, read, read_at, read_var, wide}
use Rattle.varint.proofs.Cases.{by-lt}

pub limits : (limit wide ≡ 2 ^ 64) × (limit narrow ≡ 2 ^ 32)
limits = (refl, refl)

-- as the elements of a slice of bytes are
abbrev pub Bytes : List ℕ → Type 0
Bytes s = (k : ℕ) → get_or s k 0 < 256

-- a number and the bytes left, as they were read from bs
record Taken (n cap : ℕ) (bs : List ℕ) (a : ℕ × List ℕ) : Type 0 where
  past : ℕ
  some : 0 < past
  inside : past ≤ length bs
  left : a.1 ≡ drop past bs
  bounded : Bytes bs → a.0 < (cap + 1) * 128 ^ n

taken : (n cap : ℕ) (bs : List ℕ) (a : ℕ × List ℕ) → read_var n cap bs ≡ ok a → Taken n cap bs a
taken n cap [] a p = let z : ◌≡◌ {A = ℕ} 0 1 = cc in absurd (omega arith)
taken zero cap (b ∷ bs) a p =
    let h = need-ok (leb b cap) 9 (ok (b, bs)) a p in
    let small : b ≤ cap = leb-true b cap h.0 in
    rw (← ok-is h.1) (record { past = 1; some = omega arith; inside = omega arith; left = refl; bounded = λ _. omega arith })
taken (suc n) cap (b ∷ bs) a p =
    by-lt b 128
    (λ l.
    rw (← ok-is (rw (lt-ltb b 128 l) at p))
    (record { past = 1; some = omega arith; inside = omega arith; left = refl; bounded = λ _. rw pow-suc (omega (arith, one-le-pow n 128 (omega arith))) }))
    (λ l.
    let h = bind_ok (read_var n cap bs) (λ (v, r). ok (b - 128 + 128 * v, r)) a (rw (le-ltb b 128 l) at p) in
    let k = taken n cap bs h.0 h.1 in
    rw (← ok-is h.2)
    (record {
      past = suc k.past;
      some = omega arith;
      inside = omega (arith, k.inside);
      left = k.left;
      bounded = λ bytes. rw pow-suc (omega (arith, bytes 0, k.bounded (λ i. bytes (suc i))));
    }))

pub bound : (w : Width) (bs : List ℕ) {a : ℕ × List ℕ} → read w bs ≡ ok a → Bytes bs → a.0 < limit w
unfolding read
bound w bs {a} p = (taken w.before w.cap bs a p).bounded

module _ (w : Width) (s : List ℕ) (at : ℕ) where
  -- the bytes left are those from the place after the number on
  back : (a : ℕ × ℕ) → read_at w s at ≡ ok a → (read w (drop at s) ≡ ok (a.0, drop a.1 s)) × (at < a.1) × (a.1 ≤ length s)
  unfolding read read_at
  back a p =
      let h = bind_ok (read w (drop at s)) (λ (v, r). ok (v, length s - length r)) a p in
      let k = taken w.before w.cap (drop at s) h.0 h.1 in
      let left : h.0.1 ≡ drop (at + k.past) s = k.left ∙ drop-drop k.past at s in
      let inside : k.past ≤ length s - at = rw length-drop at k.inside in
      let place : length s - length h.0.1 ≡ at + k.past = omega (arith, k.some, ap length left, length-drop (at + k.past) s) in
      rw (← ok-is h.2) (rw place (h.1 ∙ ap {B = Out (ℕ × List ℕ)} (λ r. ok (h.0.0, r)) left, omega (arith, k.some), omega (arith, k.some)))

  module _ {a : ℕ × ℕ} (p : read_at w s at ≡ ok a) where
    pub read_back : read w (drop at s) ≡ ok (a.0, drop a.1 s)
    read_back = (back a p).0

    pub place_after : (at < a.1) × (a.1 ≤ length s)
    place_after = ((back a p).1, (back a p).2)

    pub bound_at : Bytes s → a.0 < limit w
    bound_at bytes = bound w (drop at s) read_back (λ k. rw get_or-drop (bytes (at + k)))

  -- reading on from the bytes left, and from the place after the number
  pub bridge : {B : Type 0} (F : ℕ × List ℕ → Out B) → read w (drop at s) >>= F ≡ read_at w s at >>= λ (v, p). F (v, drop p s)
  unfolding read_at
  bridge F = go (read w (drop at s)) refl
    where
      go : (x : Out (ℕ × List ℕ)) → read w (drop at s) ≡ x → x >>= F ≡ x >>= (λ (v, r). ok (v, length s - length r)) >>= λ (v, p). F (v, drop p s)
      go (bad n) e = refl
      go (ok a) e = ap (λ (x : Out (ℕ × List ℕ)). x >>= F) (sym e ∙ (back (a.0, length s - length a.1) (rw e)).0)
