-- What `nearest_whole` means, and the laws of it. Assumes nothing.
use mathlib.Core.Path.{◌≡◌, ap, sym, ◌∙◌}
use Prim.Native.Nat.{ℕ, ◌+◌, ◌*◌, ◌/◌, ◌≤◌, ◌<◌}
use native.Mathlib.Nat.{add-mul, add-div_right, div-div-eq-div-mul, div-eq_of_lt-le, div-lt_iff_lt-mul, div-mul-le_self, le-div_iff_mul-le, mul-add, mul_assoc, mul_comm, mul-div-mul_left, mul_left_comm, mul-pos, one-mul, zero-lt-suc}
use native.Mathlib.Omega.{arith}
use lib.Ieee.Nearest.{div_same}
use Rattle.degrees.specs.Degrees.{nearest_whole}

-- q lies above a / b - 1 / 2, and not above a / b + 1 / 2: it is the nearest whole number, and at a half the larger
abbrev pub Nearest : ℕ → ℕ → ℕ → Type 0
Nearest a b q = (2 * (q * b) ≤ 2 * a + b) × (2 * a < 2 * (q * b) + b)

twice : (q b : ℕ) → (q * (2 * b) ≡ 2 * (q * b)) × ((q + 1) * (2 * b) ≡ 2 * (q * b) + 2 * b)
twice q b =
    let e : q * (2 * b) ≡ 2 * (q * b) = mul_left_comm q 2 b in
    (e, add-mul q 1 (2 * b) ∙ ap (λ (x : ℕ). x + 1 * (2 * b)) e ∙ ap (λ (x : ℕ). 2 * (q * b) + x) (one-mul (2 * b)))

pub nearest-means : (a b : ℕ) → 0 < b → Nearest a b (nearest_whole a b)
unfolding nearest_whole
nearest-means a b P =
    let q = (2 * a + b) / (2 * b) in
    let lo : q * (2 * b) ≤ 2 * a + b = div-mul-le_self (2 * a + b) (2 * b) in
    let hi : 2 * a + b < (q + 1) * (2 * b) = (div-lt_iff_lt-mul {k = 2 * b} {x = 2 * a + b} {y = q + 1} (mul-pos (zero-lt-suc 1) P)).0 (omega arith) in
    let e = twice q b in
    (omega arith, omega arith)

pub nearest-only : (a b q : ℕ) → 0 < b → Nearest a b q → nearest_whole a b ≡ q
unfolding nearest_whole
nearest-only a b q P h = let e = twice q b in div-eq_of_lt-le (2 * b) (omega arith) (omega arith)

-- ---- laws
pub under-half : (a b : ℕ) → 2 * a < b → nearest_whole a b ≡ 0
under-half a b h = nearest-only a b 0 (omega arith) (omega arith, omega arith)

pub at_least : (a b c : ℕ) → 0 < b → c * b ≤ a → c ≤ nearest_whole a b
unfolding nearest_whole
at_least a b c P h = let e = twice c b in (le-div_iff_mul-le {k = 2 * b} {x = c} {y = 2 * a + b} (mul-pos (zero-lt-suc 1) P)).1 (omega arith)

-- it goes by the value of the fraction alone
expand : (a b d : ℕ) → (2 * a + b) * (2 * d) ≡ 4 * (a * d) + 2 * (b * d)
expand a b d =
    let p : (2 * a + b) * (2 * d) ≡ 2 * ((2 * a + b) * d) = mul_left_comm (2 * a + b) 2 d in
    let q : (2 * a + b) * d ≡ 2 * (a * d) + b * d = add-mul (2 * a) b d ∙ ap (λ (x : ℕ). x + b * d) (mul_assoc 2 a d) in
    omega arith

pub nearest-same : (a b c d : ℕ) → 0 < b → 0 < d → a * d ≡ c * b → nearest_whole a b ≡ nearest_whole c d
unfolding nearest_whole
nearest-same a b c d B D e =
    div_same (2 * a + b) (2 * b) (2 * c + d) (2 * d) (mul-pos (zero-lt-suc 1) B) (mul-pos (zero-lt-suc 1) D)
    (expand a b d ∙ ap (λ (x : ℕ). 4 * x + 2 * (b * d)) e ∙ ap (λ (x : ℕ). 4 * (c * b) + 2 * x) (mul_comm b d) ∙ sym (expand c d b))

-- the whole part of a number of halves, and one more, halved
pub of-halves : (a h : ℕ) → 0 < h → (a / h + 1) / 2 ≡ nearest_whole a (2 * h)
unfolding nearest_whole
of-halves a h P =
    ap (λ (x : ℕ). x / 2) (sym (add-div_right a P))
    ∙ div-div-eq-div-mul (a + h) h 2
    ∙ ap (λ (x : ℕ). (a + h) / x) (mul_comm h 2)
    ∙ sym (mul-div-mul_left (a + h) (2 * h) (zero-lt-suc 1))
    ∙ ap (λ (x : ℕ). x / (2 * (2 * h))) (mul-add 2 a h)
