-- Numbers as bytes, lowest byte first, and 32 bits as a signed number. Assumes nothing.
use Rattle.std.specs.Prelude.{ℕ, zero, suc, ◌+◌, ◌-◌, ◌*◌, ◌/◌, ◌%◌, ◌^◌, cond, List, [], ◌∷◌, ltb, ℤ, pos, negsuc, get_or}

-- the byte at a place, and 0 past the end
abbrev pub byte_at : List ℕ → ℕ → ℕ
byte_at s k = get_or s k 0

-- the number that the n bytes from a place on stand for
unfoldable pub number_at : ℕ → List ℕ → ℕ → ℕ
number_at zero s k = 0
number_at (suc n) s k = byte_at s k + 256 * number_at n s (suc k)

-- the n bytes of a number
unfoldable pub bytes_of : ℕ → ℕ → List ℕ
bytes_of zero v = []
bytes_of (suc n) v = v % 256 ∷ bytes_of n (v / 256)

-- two's complement: the number that 32 bits stand for, and the 32 bits of a number. `negsuc n` is -(n + 1)
unfoldable pub signed_of : ℕ → ℤ
signed_of u = cond (ltb u (2 ^ 31)) (pos u) (negsuc (2 ^ 32 - suc u))

unfoldable pub bits_of_lem : ℤ → ℕ
bits_of_lem (pos n) = n
bits_of_lem (negsuc n) = 2 ^ 32 - suc n
