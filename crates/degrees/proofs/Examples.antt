-- Worked examples of the rounding, which the checker computes. Assumes nothing.
use mathlib.Core.Bool.{true, false}
use mathlib.Core.List.{List, [], ◌∷◌, map}
use mathlib.Core.Path.{◌≡◌, refl}
use lib.Ieee.{Float, nan, inf, fin, binary64, of_bits, round}
use lib.IntN.{ℤ, pos, neg_ℤ}
use Rattle.degrees.specs.Degrees.{decimal, nearest_whole, sign_of, size_of, whole_of}

-- products, and the whole numbers of them
abbrev pub products : List (Float × ℤ)
products =
    (decimal false 5 2, pos 3)  -- 2.5
    ∷ (decimal true 5 2, neg_ℤ (pos 3))
    ∷ (of_bits binary64 0x3fdf_ffff_ffff_ffff, pos 0)  -- 0.49999999999999994
    ∷ (decimal false 1 2, pos 1)
    ∷ (fin true 0 (pos 0), pos 0)  -- -0.0
    ∷ (decimal false 4294967293 2, pos 2147483647)  -- 2147483646.5
    ∷ (decimal false 4294967295 2, pos 2147483647)  -- 2147483647.5
    ∷ (decimal true 4294967295 2, neg_ℤ (pos 2147483648))
    ∷ (decimal true 4294967297 2, neg_ℤ (pos 2147483648))
    ∷ (fin false 1 (pos 900), pos 2147483647)  -- 2 ^ 900
    ∷ (fin true 1 (pos 900), neg_ℤ (pos 2147483648))
    ∷ (inf false, pos 2147483647)
    ∷ (inf true, neg_ℤ (pos 2147483648))
    ∷ (nan, pos 0)
    ∷ []

pub rounded : map (λ (e : Float × ℤ). whole_of e.0) products ≡ map (λ (e : Float × ℤ). e.1) products
unfolding whole_of sign_of size_of nearest_whole of_bits round
rounded = refl
