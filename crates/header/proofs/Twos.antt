-- Two's complement: the definitions are the machine's reading of 32 bits. Assumes nothing.
use mathlib.Core.Bool.{Bool, true, false, cond}
use mathlib.Core.Path.{◌≡◌, refl, sym, ap, ◌∙◌, subst}
use Prim.Native.Nat.{ℕ, suc, ◌-◌, ◌<◌, ◌^◌}
use lib.Dec.{ltb}
use lib.IntN.{ℤ, pos, negsuc}
use mir.Syntax.{w32}
use mir.Val.{SFits, sel, to_z, of_z}
use mir.ValLaws.{of_z_fits, to_z-of_z}
use Rattle.header.specs.Bytes.{signed_of, bits_of_lem}

pub signed_is : (u : ℕ) → to_z w32 u ≡ signed_of u
unfolding signed_of
signed_is u = go (ltb u (2 ^ 31))
  where
    go : (b : Bool) → sel b (pos u) (negsuc (2 ^ 32 - suc u)) ≡ cond b (pos u) (negsuc (2 ^ 32 - suc u))
    go true = refl
    go false = refl

pub bits_is : (z : ℤ) → of_z w32 z ≡ bits_of_lem z
unfolding bits_of_lem
bits_is (pos n) = refl
bits_is (negsuc n) = refl

-- ---- the bits of a number stand for it
pub bits-lt : (z : ℤ) → SFits w32 z → bits_of_lem z < 2 ^ 32
bits-lt z h = subst (λ (u : ℕ). u < 2 ^ 32) (bits_is z) (of_z_fits w32 z h).fits

pub signed-bits : (z : ℤ) → SFits w32 z → signed_of (bits_of_lem z) ≡ z
signed-bits z h = sym (signed_is (bits_of_lem z)) ∙ ap (to_z w32) (sym (bits_is z)) ∙ to_z-of_z w32 z h
