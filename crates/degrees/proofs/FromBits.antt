-- What `rounded_by_bits` cites: a float above 0 and below 2 ^ 31 by the fields of its bit pattern, and the whole number nearest to it. Assumes nothing.
use mathlib.Core.Bool.{Bool, true, false, not, cond, true≢false}
use mathlib.Core.Path.{◌≡◌, sym, ap, ◌∙◌, subst}
use Prim.Native.Nat.{ℕ, zero, suc, ◌+◌, ◌-◌, ◌*◌, ◌/◌, ◌%◌, ◌^◌, ◌≤◌, ◌<◌}
use native.Mathlib.Nat.{add_comm, le-add_right, le_of_eq, le_of_suc-le-suc, le_trans, lt_of_le_of_lt, lt_of_lt_of_le, lt_of_mul-lt-mul_right, lt_of_not-le, mod-eq_of_lt, mod-lt, mul_assoc, mul-le-mul_left, mul-le-mul_right, mul-lt-mul_of_pos_left, mul-lt-mul_of_pos_right, mul-one, mul-pos, mul_right_comm, not-le_of_lt, zero-lt-suc}
use native.Mathlib.Omega.{arith}
use borrow.Author.Tests.{leb-false}
use lib.Dec.{T, leb, eqb, ltb→lt, lit≤}
use lib.Ieee.{Float, nan, inf, fin, binary64, up, down, odd, of_fields, of_bits, to_bits, lt, fits, is_nan}
use lib.Ieee.Bits.{of_bits-to_bits}
use lib.Ieee.Exact.{HasValue, odd_sign}
use lib.Ieee.Fits.{down_pos}
use lib.Pow.{pow-add, pow_pos, pow_mono}
use Rattle.degrees.specs.Degrees.{nearest_whole, size_of}
use Rattle.degrees.proofs.Nearest.{under-half, nearest-same, of-halves}
use Rattle.degrees.proofs.Sizes.{nought, end}

-- the smallest float above 0 is 1 / unit, and every float is a whole number of it
abbrev unit : ℕ
unit = 2 ^ 1074

-- that number, for the field of the exponent x and the digits t
abbrev amount : ℕ → ℕ → ℕ
amount zero t = t * 2 ^ 0
amount (suc x) t = (2 ^ 52 + t) * 2 ^ x

-- ---- the value of a bit pattern, above 0 and below 2 ^ 31
no-inf : (c s : Bool) (a d : ℕ) → T (lt nought (cond c (inf s) nan)) → T (lt (cond c (inf s) nan) end) → HasValue (cond c (inf s) nan) s a d
unfolding lt
no-inf true true a d p q = absurd p
no-inf true false a d p q = absurd q
no-inf false s a d p q = absurd p

fields-val : (s : Bool) (x t : ℕ) → T (lt nought (of_fields binary64 s x t)) → T (lt (of_fields binary64 s x t) end) → HasValue (of_fields binary64 s x t) s (amount x t) unit
unfolding of_fields
fields-val s zero t p q = odd_sign 53 s t 0 1074
fields-val s (suc x) t p q = go (eqb (suc x) 2047) p q
  where
    float : Bool → Float
    float b = cond b (cond (eqb t 0) (inf s) nan) (odd 53 s (2 ^ 52 + t) x 1074)

    go : (b : Bool) → T (lt nought (float b)) → T (lt (float b) end) → HasValue (float b) s (amount (suc x) t) unit
    go true p q = no-inf (eqb t 0) s (amount (suc x) t) unit p q
    go false p q = odd_sign 53 s (2 ^ 52 + t) x 1074

no_sign : (v : Float) (s : Bool) (a d : ℕ) → HasValue v s a d → T (lt nought v) → s ≡ false
unfolding lt
no_sign nan s a d h t = absurd h
no_sign (inf b) s a d h t = absurd h
no_sign (fin true m e) s a d h t = absurd t
no_sign (fin false m e) s a d h t = sym h.0

bits-val : (b : ℕ) → T (lt nought (of_bits binary64 b)) → T (lt (of_bits binary64 b) end) → HasValue (of_bits binary64 b) false (amount (b / 2 ^ 52) (b % 2 ^ 52)) unit
unfolding of_bits
bits-val b p q =
    let minus = leb (2 ^ 63) b in
    let x = b % 2 ^ 63 / 2 ^ 52 in
    let t = b % 2 ^ 52 in
    let v = fields-val minus x t p q in
    let s : minus ≡ false = no_sign (of_fields binary64 minus x t) minus (amount x t) unit v p in
    let e : b % 2 ^ 63 ≡ b = mod-eq_of_lt (leb-false (2 ^ 63) b s) in
    subst (λ (y : ℕ). HasValue (of_fields binary64 minus x t) false (amount (y / 2 ^ 52) t) unit) e
    (subst (λ (u : Bool). HasValue (of_fields binary64 minus x t) u (amount x t) unit) s v)

-- ---- what a value says of the size, and of the amount
size-at : (v : Float) (s : Bool) (a d : ℕ) → 0 < d → HasValue v s a d → size_of v ≡ nearest_whole a d
unfolding size_of
size-at nan s a d P h = absurd h
size-at (inf b) s a d P h = absurd h
size-at (fin b m e) s a d P h = nearest-same (m * up e) (down e) a d (down_pos e) P h.1

below_end : (v : Float) (a d : ℕ) → 0 < d → HasValue v false a d → T (lt v end) → a < 2 ^ 31 * d
unfolding lt
below_end nan a d P h t = absurd h
below_end (inf b) a d P h t = absurd h
below_end (fin true m e) a d P h t = absurd (true≢false h.0)
below_end (fin false m e) a d P h t =
    let l : m * up e * 1 < 2 ^ 31 * down e = ltb→lt (m * up e * 1) (2 ^ 31 * down e) t in
    lt_of_mul-lt-mul_right (down e)
    (lt_of_le_of_lt (le_of_eq (sym h.1 ∙ ap (λ (x : ℕ). x * d) (sym (mul-one (m * up e)))))
    (lt_of_lt_of_le (mul-lt-mul_of_pos_right l P) (le_of_eq (mul_right_comm (2 ^ 31) (down e) d))))

-- ---- the nearest whole number by the field: 0 below 1022, and else the digits shifted, as far as 1053
small-field : (x t : ℕ) → amount x t < 2 ^ 31 * unit → x ≤ 1053
small-field zero t h = lit≤ {m = 0} {n = 1053} tt
small-field (suc x) t h =
    lt_of_not-le
    (λ (g : 1053 ≤ x). not-le_of_lt h
    (le_trans (lit≤ {m = 2 ^ 31 * unit} {n = 2 ^ 52 * 2 ^ 1053} tt) (le_trans (mul-le-mul_left (2 ^ 52) (pow_mono g)) (mul-le-mul_right (2 ^ x) (le-add_right (2 ^ 52) t)))))

digits_lt : (t : ℕ) → t < 2 ^ 52 → 2 ^ 52 + t < 2 ^ 53
digits_lt t h = omega arith

low-amount : (x t : ℕ) → x < 1022 → t < 2 ^ 52 → amount x t < 2 ^ 53 * 2 ^ 1020
low-amount zero t X h = lt_of_le_of_lt (le_of_eq (mul-one t)) (lt_of_lt_of_le h (lit≤ tt))
low-amount (suc x) t X h =
    lt_of_lt_of_le (mul-lt-mul_of_pos_right (digits_lt t h) (pow_pos x)) (mul-le-mul_left (2 ^ 53) (pow_mono (le_of_suc-le-suc (le_of_suc-le-suc X))))

low_field : (x t : ℕ) → x < 1022 → t < 2 ^ 52 → nearest_whole (amount x t) unit ≡ 0
low_field x t X h = under-half (amount x t) unit (lt_of_lt_of_le (mul-lt-mul_of_pos_left {k = 2} (low-amount x t X h) (zero-lt-suc 1)) (lit≤ {m = 2 * (2 ^ 53 * 2 ^ 1020)} tt))

split : (x : ℕ) → suc x ≤ 1053 → x + 1 + (1075 - suc x - 1) ≡ 1074
split x h = omega arith

high-field : (x t : ℕ) → 1022 ≤ x → x ≤ 1053 → ((t + 2 ^ 52) / 2 ^ (1075 - x - 1) + 1) / 2 ≡ nearest_whole (amount x t) unit
high-field zero t X Y = absurd (omega arith)
high-field (suc x) t X Y =
    let j = 1075 - suc x - 1 in
    let d = 2 ^ 52 + t in
    let e : 2 ^ x * (2 * 2 ^ j) ≡ unit =
    sym (mul_assoc (2 ^ x) 2 (2 ^ j)) ∙ ap (λ (y : ℕ). y * 2 ^ j) (sym (pow-add 2 x 1)) ∙ sym (pow-add 2 (x + 1) j) ∙ ap (λ (y : ℕ). 2 ^ y) (split x Y) in
    ap (λ (y : ℕ). (y / 2 ^ j + 1) / 2) (add_comm t (2 ^ 52))
    ∙ of-halves d (2 ^ j) (pow_pos j)
    ∙ nearest-same d (2 * 2 ^ j) (d * 2 ^ x) unit (mul-pos (zero-lt-suc 1) (pow_pos j)) (pow_pos 1074) (ap (λ (y : ℕ). d * y) (sym e) ∙ sym (mul_assoc d (2 ^ x) (2 * 2 ^ j)))

-- ---- of a float
pub no_nan : (a : Float) → T (lt nought a) → T (not (is_nan a))
unfolding lt is_nan
no_nan nan p = absurd p
no_nan (inf s) p = tt
no_nan (fin s m e) p = tt

-- the fields of its bit pattern, where the sign is not set
abbrev pub field_of : Float → ℕ
field_of a = to_bits binary64 a / 2 ^ 52

abbrev pub digits_of : Float → ℕ
digits_of a = to_bits binary64 a % 2 ^ 52

module _ (a : Float) (f : T (fits binary64 a)) (p : T (lt nought a)) (q : T (lt a end)) where
  value : HasValue a false (amount (field_of a) (digits_of a)) unit
  value =
      let e : of_bits binary64 (to_bits binary64 a) ≡ a = of_bits-to_bits binary64 a f in
      subst (λ (v : Float). HasValue v false (amount (field_of a) (digits_of a)) unit) e
      (bits-val (to_bits binary64 a) (subst (λ (v : Float). T (lt nought v)) (sym e) p) (subst (λ (v : Float). T (lt v end)) (sym e) q))

  size_is : size_of a ≡ nearest_whole (amount (field_of a) (digits_of a)) unit
  size_is = size-at a false (amount (field_of a) (digits_of a)) unit (pow_pos 1074) value

  pub field-le : field_of a ≤ 1053
  field-le = small-field (field_of a) (digits_of a) (below_end a (amount (field_of a) (digits_of a)) unit (pow_pos 1074) value q)

  pub low-is : field_of a < 1022 → 0 ≡ size_of a
  low-is h = sym (size_is ∙ low_field (field_of a) (digits_of a) h (mod-lt (to_bits binary64 a) (pow_pos 52)))

  pub high_is : 1022 ≤ field_of a → ((digits_of a + 2 ^ 52) / 2 ^ (1075 - field_of a - 1) + 1) / 2 ≡ size_of a
  high_is h = high-field (field_of a) (digits_of a) h field-le ∙ sym size_is
