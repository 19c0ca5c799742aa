-- `rounded_by_bits` meets its contract. Assumes nothing.
use Prim.Native.Nat.{◌+◌, ◌-◌, ◌^◌, ◌≤◌}
use native.Mathlib.Nat.{div-le_self}
use native.Mathlib.Omega.{arith}
use denote.Floats.{passes}
use Rattle.degrees.proofs.FromBits.{no_nan, field_of, digits_of, field-le, low-is, high_is}
use Rattle.degrees.proofs.rounded_by_bits.Goals as goal

field : (c : goal.Else-field-lt1022) → field_of c.args.a ≤ 1053
field c = field-le c.args.a (passes _ c.well_formed.0.1) c.requires.positive c.requires.below

pub float_to_bits-b : goal.float_to_bits-b
float_to_bits-b c = no_nan c.args.a c.requires.positive

pub returns-then-field-lt1022 : goal.returns-then-field-lt1022
returns-then-field-lt1022 c = low-is c.args.a (passes _ c.well_formed.0.1) c.requires.positive c.requires.below c.if-field-lt1022.true

pub overflow_sub-drop : goal.overflow_sub-drop
overflow_sub-drop c = omega (arith, field c)

pub overflow_sub-result : goal.overflow_sub-result
overflow_sub-result c = omega (arith, field c)

pub overflow_add-result : goal.overflow_add-result
overflow_add-result c = let a = c.args.a in omega (arith, div-le_self (digits_of a + 2 ^ 52) (2 ^ (1075 - field_of a - 1)))

pub returns : goal.returns
returns c = high_is c.args.a (passes _ c.well_formed.0.1) c.requires.positive c.requires.below c.if-field-lt1022.false
