-- `hilbert::index_of` meets its contract. Assumes nothing.
use mathlib.Core.Path.{◌≡◌}
use native.Mathlib.Nat.{pow-le-pow_right, zero-lt-suc}
use native.Mathlib.Omega.{arith}
use Rattle.tile.specs.Tile.{index}
use Rattle.tile.proofs.Curve.{gathered-le, index-lt}
use Rattle.tile.proofs.hilbert.index_of.Goals as goal

pub step-w-requires-clause-gathered : goal.step-w-requires-clause-gathered
step-w-requires-clause-gathered c =
    let l = c.loop-i in
    let a = c.args in
    let s = c.requires in
    omega (arith, gathered-le l.i l.w.h _ _ l.invariant.3, index-lt a.z a.x a.y s.1 s.2, pow-le-pow_right {n = 4} (zero-lt-suc 3) s.0)

pub returns : goal.returns
unfolding index
returns c = let l = c.loop-i in let e : l.i ≡ 0 = omega arith in omega (arith, rw e at l.invariant.3)
