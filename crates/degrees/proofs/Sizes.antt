-- The sign and the size of a float by the tests against 0 and 2 ^ 31 that `stored_of` and `capped` make. Assumes nothing.
use mathlib.Core.Path.{◌≡◌, refl, ap}
use mathlib.Core.Bool.{Bool, true, false, not}
use Prim.Native.Nat.{ℕ, zero, suc, ◌+◌, ◌*◌, ◌^◌, ◌≤◌, ◌<◌, min}
use native.Mathlib.Nat.{le_refl, le_of_eq, le_trans, mul-one}
use native.Mathlib.Omega.{arith}
use lib.Dec.{T, ltb, lt→ltb, ltb→lt, nltb→le}
use lib.Ieee.{Float, nan, inf, fin, binary64, up, down, lt, mul, neg}
use lib.Ieee.Fits.{down_pos}
use lib.IntN.{pos, neg_ℤ}
use lib.Pow.{pow_pos}
use lib.Signed.{mag}
use mir.Syntax.{w32}
use mir.Val.{SFits}
use Rattle.degrees.specs.Degrees.{nearest_whole, sign_of, size_of, clamped, whole_of, stored_of_lem, ten_million}
use Rattle.degrees.proofs.Nearest.{at_least, under-half}

abbrev pub nought : Float
nought = fin false 0 (pos 0)

-- 2 ^ 31
abbrev pub end : Float
end = fin false 1 (pos 31)

-- ---- above 0
pub above : (p : Float) → T (lt nought p) → whole_of p ≡ clamped false (size_of p)
unfolding lt whole_of sign_of
above nan t = absurd t
above (inf true) t = absurd t
above (inf false) t = refl
above (fin true m e) t = absurd t
above (fin false m e) t = refl

pub far : (p : Float) → T (lt nought p) → T (not (lt p end)) → 2 ^ 31 ≤ size_of p
unfolding lt size_of
far nan t u = absurd t
far (inf true) t u = absurd t
far (inf false) t u = le_refl (2 ^ 31)
far (fin true m e) t u = absurd t
far (fin false m e) t u =
    at_least (m * up e) (down e) (2 ^ 31) (down_pos e)
    (le_trans (nltb→le (m * up e * 1) (2 ^ 31 * down e) u) (le_of_eq (mul-one (m * up e))))

-- ---- below 0. The test of a value m / d against 0 comes to one of these
turned : (m d : ℕ) → T (ltb 0 (m * 1 + 0 * d)) → T (ltb (0 * d) (m * 1))
turned m d t = let h = ltb→lt 0 (m * 1 + 0 * d) t in lt→ltb (0 * d) (m * 1) (omega arith)

never : (m d : ℕ) → T (ltb (m * 1) (0 * d)) → ⊥
never m d t = let h = ltb→lt (m * 1) (0 * d) t in omega arith

pub under : (p : Float) → T (lt p nought) → T (lt nought (neg p)) × (whole_of p ≡ clamped true (size_of (neg p)))
unfolding lt whole_of sign_of size_of neg
under nan t = absurd t
under (inf true) t = (tt, refl)
under (inf false) t = absurd t
under (fin true m e) t = (turned (m * up e) (down e) t, refl)
under (fin false m e) t = absurd (never (m * up e) (down e) t)

-- ---- neither: a zero, or a NaN
none : (m d : ℕ) → 0 < d → T (not (ltb (0 * d) (m * 1))) → nearest_whole m d ≡ 0
none m d P t = let h = nltb→le (0 * d) (m * 1) t in under-half m d (omega arith)

none-neg : (m d : ℕ) → 0 < d → T (not (ltb 0 (m * 1 + 0 * d))) → nearest_whole m d ≡ 0
none-neg m d P t = let h = nltb→le 0 (m * 1 + 0 * d) t in under-half m d (omega arith)

pub neither : (p : Float) → T (not (lt nought p)) → T (not (lt p nought)) → whole_of p ≡ pos 0
unfolding lt whole_of sign_of size_of
neither nan t u = refl
neither (inf true) t u = absurd u
neither (inf false) t u = absurd t
neither (fin true m e) t u = ap (clamped true) (none-neg (m * up e) (down e) (down_pos e) u)
neither (fin false m e) t u = ap (clamped false) (none (m * up e) (down e) (down_pos e) t)

-- ---- -n, for an n up to 2 ^ 31
pub mag-neg : (n : ℕ) → n ≤ 2 ^ 31 → mag (neg_ℤ (pos n)) < 2 ^ 31
mag-neg zero h = pow_pos 31
mag-neg (suc n) h = h

-- ---- what is stored fits an i32
clamped-in : (s : Bool) (n : ℕ) → mag (clamped s n) < 2 ^ 31
clamped-in true n = mag-neg (min n (2 ^ 31)) (omega arith)
clamped-in false n = omega arith

pub stored-fits : (x : Float) → SFits w32 (stored_of_lem x)
unfolding stored_of_lem whole_of
stored-fits x = let p = mul binary64 x ten_million in record { sfits = clamped-in (sign_of p) (size_of p) }
