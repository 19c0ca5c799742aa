-- `hilbert::place_of` meets its contract. Assumes nothing.
use mathlib.Core.Path.{◌∙◌, ◌≡◌}
use native.Mathlib.Nat.{mod-eq_of_lt}
use native.Mathlib.Omega.{arith}
use Rattle.tile.proofs.Curve.{inside_of}
use Rattle.tile.proofs.hilbert.place_of.Goals as goal

pub unstep-p-requires-clause-x : goal.unstep-p-requires-clause-x
unstep-p-requires-clause-x c = (inside_of _ _ _ _ c.loop-i.invariant).0

pub unstep-p-requires-clause-y : goal.unstep-p-requires-clause-y
unstep-p-requires-clause-y c = (inside_of _ _ _ _ c.loop-i.invariant).1

pub returns : goal.returns
returns c = let l = c.loop-i in let e : l.i ≡ c.args.z = omega arith in (rw e at l.invariant) ∙ rw (mod-eq_of_lt c.requires.1)
