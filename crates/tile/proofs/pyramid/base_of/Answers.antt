-- `pyramid::base_of` meets its contract. Assumes nothing.
use Prim.Native.Nat.{ℕ, ◌*◌, ◌%◌, ◌^◌, ◌<◌}
use mathlib.Core.Path.{◌≡◌}
use native.Mathlib.Nat.{one-mul, mod-eq_of_lt}
use native.Mathlib.Omega.{arith}
use lib.Pow.{pow-lt}
use Rattle.tile.specs.Tile.{base}
use Rattle.tile.proofs.Curve.{four-two}
use Rattle.tile.proofs.pyramid.base_of.Goals as goal

shifted : (z : ℕ) → z < 32 → 1 * 2 ^ (2 * z) % 2 ^ 64 ≡ 4 ^ z
shifted z h = rw (one-mul, mod-eq_of_lt (pow-lt {i = 2 * z} {j = 64} (omega arith))) (four-two z)

pub returns : goal.returns
unfolding base
returns c = rw (shifted c.args.z c.requires)
