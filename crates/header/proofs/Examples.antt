-- Worked examples of the coordinate rule, which the checker computes. Assumes nothing.
use mathlib.Core.List.{List, [], ◌∷◌, map}
use mathlib.Core.Path.{◌≡◌, refl}
use lib.Ieee.{Float, div, mul, of_int, round}
use lib.IntN.{ℤ, pos, neg_ℤ}
use Rattle.degrees.specs.Degrees.{degrees_of_lem, nearest_whole, sign_of, size_of, stored_of_lem, ten_million, whole_of}
use Rattle.header.specs.Header.{default_degrees}

-- the default bounds, and the numbers that are stored for them
abbrev pub bounds : List (Float × ℤ)
bounds =
    (default_degrees.min_longitude, neg_ℤ (pos 1800000000))
    ∷ (default_degrees.min_latitude, neg_ℤ (pos 850511290))
    ∷ (default_degrees.max_longitude, pos 1800000000)
    ∷ (default_degrees.max_latitude, pos 850511290)
    ∷ []

pub stored : map (λ (e : Float × ℤ). stored_of_lem e.0) bounds ≡ map (λ (e : Float × ℤ). e.1) bounds
unfolding default_degrees stored_of_lem whole_of sign_of size_of nearest_whole mul of_int round ten_million
stored = refl

pub read_again : map (λ (e : Float × ℤ). degrees_of_lem e.1) bounds ≡ map (λ (e : Float × ℤ). e.0) bounds
unfolding default_degrees degrees_of_lem div of_int round ten_million
read_again = refl
