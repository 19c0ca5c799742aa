-- Coordinates: whole numbers of ten-millionths of a degree, and the floats that a record holds for them. Assumes nothing.
-- A float is `nan`, an infinity, or `fin s m e`: m * 2 ^ e, that is m * up e / down e, negative where s is true (`Rattle.std.specs.Float`).
use Rattle.std.specs.Prelude.{ℕ, ◌+◌, ◌-◌, ◌*◌, ◌/◌, ◌^◌, min, Bool, false, cond, ℤ, pos, neg_ℤ, Float}
use Rattle.std.specs.Float.Ieee as Ieee
use Rattle.std.specs.Float.{nan, inf, fin, binary64}
use Rattle.std.specs.Float.Ieee.{up, down, round}

-- what a decimal literal means: the float nearest to n / d, negative where s is true
abbrev pub decimal : Bool → ℕ → ℕ → Float
decimal s n d = round binary64 s n d

-- 10,000,000.0
unfoldable pub ten_million : Float
ten_million = Ieee.of_int binary64 (pos 10000000)

-- the stored number as a float, divided once by ten million
unfoldable pub degrees_of_lem : ℤ → Float
degrees_of_lem z = Ieee.div binary64 (Ieee.of_int binary64 z) ten_million

-- the whole number nearest to a / b, and of two that are as near the larger: a / b + 1 / 2 cut to a whole number
unfoldable pub nearest_whole : ℕ → ℕ → ℕ
nearest_whole a b = (2 * a + b) / (2 * b)

-- a float's sign, true for minus, and the whole number nearest to its size. An infinity has 2 ^ 31, past either end of an i32
unfoldable pub sign_of : Float → Bool
sign_of nan = false
sign_of (inf s) = s
sign_of (fin s m e) = s

unfoldable pub size_of : Float → ℕ
size_of nan = 0
size_of (inf s) = 2 ^ 31
size_of (fin s m e) = nearest_whole (m * up e) (down e)

-- a size with its sign, clamped to the range of an i32
abbrev pub clamped : Bool → ℕ → ℤ
clamped s n = cond s (neg_ℤ (pos (min n (2 ^ 31)))) (pos (min n (2 ^ 31 - 1)))

-- the whole number nearest to a float, halves away from zero, clamped; 0 for a NaN
unfoldable pub whole_of : Float → ℤ
whole_of p = clamped (sign_of p) (size_of p)

-- the number that is stored for x degrees: the float product with ten million, as a whole number
unfoldable pub stored_of_lem : Float → ℤ
stored_of_lem x = whole_of (Ieee.mul binary64 x ten_million)
