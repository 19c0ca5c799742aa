-- The shortest form: what it is made of, how long it is, and that the width does not matter where there are bytes enough. Assumes nothing.
use Prim.Native.Nat.{ℕ, zero, suc, ◌+◌, ◌*◌, ◌/◌, ◌%◌, ◌^◌, ◌≤◌, ◌<◌}
use mathlib.Core.Path.{◌≡◌, refl, ap, sym, ◌∙◌}
use mathlib.Core.Bool.{cond}
use mathlib.Core.List.{List, [], ◌∷◌}
use native.Mathlib.Nat.{pow-suc}
use native.Mathlib.Omega.{arith}
use borrow.Author.Tests.{lt-ltb, le-ltb}
use lib.Dec.{ltb}
use lib.ListN.{length}
use Rattle.varint.specs.Varint.{Width, put, put_var}
use Rattle.varint.proofs.Cases.{by-lt}

pub one : (n v : ℕ) → v < 128 → put_var n v ≡ v ∷ []
one zero v h = refl
one (suc n) v h = rw (lt-ltb v 128 h)

pub more : (n v : ℕ) → 128 ≤ v → put_var (suc n) v ≡ (128 + v % 128) ∷ put_var n (v / 128)
more n v h = rw (le-ltb v 128 h)

same : (n m v : ℕ) → v < 128 * 128 ^ n → v < 128 * 128 ^ m → put_var n v ≡ put_var m v
same zero m v h k = sym (one m v h)
same (suc n) zero v h k = one (suc n) v k
same (suc n) (suc m) v h k =
    ap (λ (t : List ℕ). cond (ltb v 128) (v ∷ []) ((128 + v % 128) ∷ t))
    (same n m (v / 128) (omega (arith, rw pow-suc at h)) (omega (arith, rw pow-suc at k)))

on : (n v : ℕ) → 128 ≤ v → v < 128 * 128 ^ n → put_var n v ≡ (128 + v % 128) ∷ put_var n (v / 128)
on zero v h k = absurd (omega arith)
on (suc n) v h k =
    let k' : v < 128 * (128 ^ n * 128) = rw pow-suc at k in
    more n v h ∙ ap (λ (t : List ℕ). (128 + v % 128) ∷ t) (same n (suc n) (v / 128) (omega arith) (rw pow-suc (omega arith)))

size : (n v : ℕ) → (0 < length (put_var n v)) × (length (put_var n v) ≤ suc n)
size zero v = omega arith
size (suc n) v = let h = size n (v / 128) in by-lt v 128 (λ l. rw (one (suc n) v l) (omega arith)) (λ l. rw (more n v l) (omega arith))

module _ (w : Width) (v : ℕ) where
  pub put_one : v < 128 → put w v ≡ v ∷ []
  unfolding put
  put_one = one w.before v

  pub put-more : 128 ≤ v → v < 128 * 128 ^ w.before → put w v ≡ (128 + v % 128) ∷ put w (v / 128)
  unfolding put
  put-more = on w.before v

  pub put-size : (0 < length (put w v)) × (length (put w v) ≤ suc w.before)
  unfolding put
  put-size = size w.before v

-- so it is for the numbers below 2 ^ 32, at both widths
pub put_same : (w u : Width) (v : ℕ) → v < 128 * 128 ^ w.before → v < 128 * 128 ^ u.before → put w v ≡ put u v
unfolding put
put_same w u = same w.before u.before
