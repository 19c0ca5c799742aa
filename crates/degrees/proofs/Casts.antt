-- The same by std's words: a float rounded to a whole number and cast to an i32 is its `whole_of`. Assumes nothing.
use mathlib.Core.Path.{◌≡◌, refl, sym, ap, ◌∙◌}
use mathlib.Core.Bool.{Bool, true, false, cond, true≢false, ◌&&◌, ◌||◌}
use Prim.Native.Nat.{ℕ, zero, suc, ◌+◌, ◌*◌, ◌/◌, ◌^◌, ◌≤◌, ◌<◌}
use native.Mathlib.Nat.{mul-one, mul-div_cancel, le-div_iff_mul-le, le_of_mul-le-mul_right, mul_right_comm}
use native.Mathlib.Omega.{arith}
use lib.Dec.{T, leb, ltb, eqb, eqb→eq}
use lib.Ieee.{Float, nan, inf, fin, Format, binary64, prec, low, emax, up, down, odd, units, round, le, lt, eq, to_signed}
use lib.Ieee.Back.{round_whole}
use lib.Ieee.Exact.{HasValue}
use lib.Ieee.Fits.{down_pos, and_l, round_is}
use lib.Ieee.Order.{round_mono}
use lib.IntN.{pos, neg_ℤ}
use borrow.Author.Tests.{leb-true, leb-false, ltb-true}
use Rattle.std.specs.Float.{float_round, float_with_sign, round_with}
use Rattle.degrees.specs.Degrees.{nearest_whole, sign_of, size_of, clamped, whole_of}

-- two numbers that are both past the range
past : (s : Bool) (q n : ℕ) → 2 ^ 31 ≤ q → 2 ^ 31 ≤ n → clamped s q ≡ clamped s n
past true q n a b = ap (λ (k : ℕ). neg_ℤ (pos k)) (omega arith)
past false q n a b = ap pos (omega arith)

-- ---- a float whose value is the whole number n
exact : (r : Float) (s : Bool) (n : ℕ) → HasValue r s n 1 → to_signed 31 r ≡ clamped s n
unfolding to_signed
exact nan s n v = absurd v
exact (inf t) s n v = absurd v
exact (fin t m e) s n v =
    let q : m * up e / down e ≡ n = ap (λ (x : ℕ). x / down e) (sym (mul-one (m * up e)) ∙ v.1) ∙ mul-div_cancel n (down_pos e) in
    rw (v.0, q)

-- ---- a float that is at least 2 ^ 53
least : (a b : ℕ) (c : Bool) → T (ltb a b || (eqb a b && c)) → a ≤ b
least a b c t = go (ltb a b) refl t
  where
    go : (x : Bool) → ltb a b ≡ x → T (x || (eqb a b && c)) → a ≤ b
    go true e u = omega (arith, ltb-true a b e)
    go false e u = omega (arith, eqb→eq a b (and_l (eqb a b) c u))

least-same : (a b : ℕ) (c : Bool) → T (eqb a b && c) → a ≤ b
least-same a b c t = omega (arith, eqb→eq a b (and_l (eqb a b) c t))

size-past : (a b c d : ℕ) → 0 < b → 0 < d → a * 1 ≡ 2 ^ 53 * b → a * d ≤ c * b → 2 ^ 31 ≤ c / d
size-past a b c d B D v h =
    let l : 2 ^ 53 * d * b ≤ c * b = omega (arith, ap (λ (x : ℕ). x * d) v, mul-one a, mul_right_comm (2 ^ 53) b d) in
    (le-div_iff_mul-le D).1 (omega (arith, le_of_mul-le-mul_right l B))

above : (w r : Float) (s : Bool) (n : ℕ) → 2 ^ 53 ≤ n → HasValue w false (2 ^ 53) 1 → T (le w r) → to_signed 31 (float_with_sign s r) ≡ clamped s n
unfolding le lt eq to_signed float_with_sign
above nan r s n h v t = absurd v
above (inf u) r s n h v t = absurd v
above (fin true m e) r s n h v t = absurd (true≢false v.0)
above (fin false m e) nan s n h v t = absurd t
above (fin false m e) (inf u) s n h v t = past s (2 ^ 31) n (omega arith) (omega arith)
above (fin false m e) (fin true k d) s n h v t =
    past s (k * up d / down d) n
    (size-past (m * up e) (down e) (k * up d) (down d) (down_pos e) (down_pos d) v.1 (least-same (m * up e * down d) (k * up d * down e) _ t))
    (omega arith)
above (fin false m e) (fin false k d) s n h v t =
    past s (k * up d / down d) n
    (size-past (m * up e) (down e) (k * up d) (down d) (down_pos e) (down_pos d) v.1 (least (m * up e * down d) (k * up d * down e) _ t))
    (omega arith)

-- ---- the sign is put on last
signed_odd : (s : Bool) (d q k l : ℕ) → float_with_sign s (odd d false q k l) ≡ odd d s q k l
unfolding float_with_sign odd
signed_odd s d zero k l = refl
signed_odd s d (suc q) k l = refl

signed_units : (f : Format) (s : Bool) (q k : ℕ) → float_with_sign s (units f false q k) ≡ units f s q k
unfolding units float_with_sign
signed_units f s q k = go (ltb (q * 2 ^ k) (2 ^ (low f + suc (emax f))))
  where
    go : (b : Bool) → float_with_sign s (cond b (odd (suc (prec f)) false q k (low f)) (inf false)) ≡ cond b (odd (suc (prec f)) s q k (low f)) (inf s)
    go true = signed_odd s (suc (prec f)) q k (low f)
    go false = refl

signed_round : (f : Format) (s : Bool) (a c : ℕ) → float_with_sign s (round f false a c) ≡ round f s a c
signed_round f s a c = ap (float_with_sign s) (round_is f false a c) ∙ signed_units f s _ _ ∙ sym (round_is f s a c)

-- ---- a whole number, made a float and cast
whole_cast : (s : Bool) (n : ℕ) → to_signed 31 (round binary64 s n 1) ≡ clamped s n
whole_cast s n = go (leb n (2 ^ 53)) refl
  where
    go : (b : Bool) → leb n (2 ^ 53) ≡ b → to_signed 31 (round binary64 s n 1) ≡ clamped s n
    go true e = exact (round binary64 s n 1) s n (round_whole binary64 s n (leb-true n (2 ^ 53) e))
    go false e =
        let h = leb-false n (2 ^ 53) e in
        ap (to_signed 31) (sym (signed_round binary64 s n 1))
        ∙ above (round binary64 false (2 ^ 53) 1) (round binary64 false n 1) s n (omega arith) (round_whole binary64 false (2 ^ 53) (omega arith))
        (round_mono binary64 (2 ^ 53) 1 n 1 (omega arith) (omega arith) (omega arith))

pub rounded_cast : (p : Float) → to_signed 31 (float_round binary64 p) ≡ whole_of p
unfolding to_signed round_with whole_of sign_of size_of nearest_whole
rounded_cast nan = refl
rounded_cast (inf true) = refl
rounded_cast (inf false) = refl
rounded_cast (fin true m e) = whole_cast true _
rounded_cast (fin false m e) = whole_cast false _
