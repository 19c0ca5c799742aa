-- `stored_of` meets its contract: each way through the branches is a case of the product's sign. Assumes nothing.
use borrow.Author.Rules.{sfits_of}
use mathlib.Core.Bool.{not}
use mathlib.Core.Path.{◌≡◌, sym, ap, ◌∙◌, subst}
use Prim.Native.Nat.{ℕ, ◌≤◌, ◌^◌}
use native.Mathlib.Nat.{lt_of_le_of_lt, lt_of_lt_of_le}
use native.Mathlib.Omega.{arith}
use denote.Floats.{passes}
use lib.Dec.{lit<, lit≤}
use lib.Ieee.{of_bits, of_int}
use lib.IntN.{ℤ, pos, neg_ℤ, ◌-ℤ◌, +ℤ_idl}
use mir.Syntax.{w32, w64}
use mir.Val.{SFits, to_z, of_z}
use mir.ValLaws.{to_z-of_z, to_z_pos}
use Rattle.degrees.specs.Degrees.{ten_million, stored_of_lem}
use Rattle.degrees.proofs.Sizes.{above, under, neither, mag-neg}
use Rattle.degrees.proofs.stored_of.Goals as goal

-- the signed machine numbers on the way to -r, for an r up to 2 ^ 31
minus : (r : ℕ) → r ≤ 2 ^ 31 → pos 0 -ℤ to_z w64 r ≡ neg_ℤ (pos r)
minus r h = ap (λ (z : ℤ). pos 0 -ℤ z) (to_z_pos w64 r (lt_of_le_of_lt h (lit< tt))) ∙ +ℤ_idl (neg_ℤ (pos r))

minus-fits : (r : ℕ) → r ≤ 2 ^ 31 → SFits w64 (pos 0 -ℤ to_z w64 r)
minus-fits r h = subst (λ (z : ℤ). SFits w64 z) (sym (minus r h)) (sfits_of (lt_of_lt_of_le (mag-neg r h) (lit≤ {m = 2 ^ 31} {n = 2 ^ 63} tt)))

minus-back : (r : ℕ) → r ≤ 2 ^ 31 → to_z w64 (of_z w64 (pos 0 -ℤ to_z w64 r)) ≡ neg_ℤ (pos r)
minus-back r h = to_z-of_z w64 (pos 0 -ℤ to_z w64 r) (minus-fits r h) ∙ minus r h

minus-back-fits : (r : ℕ) → r ≤ 2 ^ 31 → SFits w32 (to_z w64 (of_z w64 (pos 0 -ℤ to_z w64 r)))
minus-back-fits r h = subst (λ (z : ℤ). SFits w32 z) (sym (minus-back r h)) (sfits_of (mag-neg r h))

pub capped-requires : goal.capped-requires
unfolding of_bits
capped-requires c = record { positive = passes _ c.if-p.true; fits = lit≤ tt }

pub capped-requires-then-p-2 : goal.capped-requires-then-p-2
unfolding of_bits
capped-requires-then-p-2 c = record { positive = (under _ (passes _ c.if-p-2.true)).0; fits = lit≤ tt }

pub overflow_sub-result : goal.overflow_sub-result
overflow_sub-result c = minus-fits c.capped-then-p-2.result (omega (arith, c.capped-then-p-2.ensures))

pub overflow_cast-result-then-p-2-2 : goal.overflow_cast-result-then-p-2-2
overflow_cast-result-then-p-2-2 c = minus-back-fits c.capped-then-p-2.result (omega (arith, c.capped-then-p-2.ensures))

pub returns-then-p : goal.returns-then-p
unfolding of_bits of_int ten_million stored_of_lem
returns-then-p c = to_z_pos w32 _ (omega arith) ∙ ap pos c.capped.ensures ∙ sym (above _ (passes _ c.if-p.true))

pub returns-then-p-2 : goal.returns-then-p-2
unfolding of_bits of_int ten_million stored_of_lem
returns-then-p-2 c =
    to_z-of_z w32 _ (minus-back-fits c.capped-then-p-2.result (omega (arith, c.capped-then-p-2.ensures)))
    ∙ minus-back c.capped-then-p-2.result (omega (arith, c.capped-then-p-2.ensures))
    ∙ ap (λ (n : ℕ). neg_ℤ (pos n)) c.capped-then-p-2.ensures
    ∙ sym (under _ (passes _ c.if-p-2.true)).1

pub returns-else-p-2 : goal.returns-else-p-2
unfolding of_bits of_int ten_million stored_of_lem
returns-else-p-2 c = sym (neither _ (passes _ (ap not c.if-p.false)) (passes _ (ap not c.if-p-2.false)))
