-- `varint::number` meets its contract: the loop keeps `Kept`. Assumes nothing.
use native.Mathlib.Omega.{arith}
use Rattle.varint.proofs.Turns.{fits, last_fits, start, turn}
use Prim.Native.Nat.{◌+◌, ◌-◌}
use mathlib.Core.Path.{◌≡◌}
use Rattle.varint.proofs.number.Goals as goal

pub loop-p-init : goal.loop-p-init
loop-p-init c =
    let a = c.args in
    let none : a.before - (a.at - a.at) ≡ a.before = omega arith in
    record { kept = rw none (start _ _ _ c.requires.1); within = omega arith }

pub overflow_add-result : goal.overflow_add-result
overflow_add-result c = omega (arith, last_fits c.loop-p.invariant.kept c.from-b.result (omega arith) (omega arith))

pub overflow_mul-result-then-b-lt128 : goal.overflow_mul-result-then-b-lt128
overflow_mul-result-then-b-lt128 c = omega (arith, fits c.loop-p.invariant.kept c.from-b.result (omega arith) (omega arith) c.if-b-lt128.true)

pub overflow_add-result-then-b-lt128 : goal.overflow_add-result-then-b-lt128
overflow_add-result-then-b-lt128 c = omega (arith, fits c.loop-p.invariant.kept c.from-b.result (omega arith) (omega arith) c.if-b-lt128.true)

pub overflow_mul-value : goal.overflow_mul-value
overflow_mul-value c = omega (arith, fits c.loop-p.invariant.kept (c.from-b.result - 128) (omega arith) (omega arith) (omega arith))

pub overflow_add-value : goal.overflow_add-value
overflow_add-value c = omega (arith, fits c.loop-p.invariant.kept (c.from-b.result - 128) (omega arith) (omega arith) (omega arith))

pub overflow_mul-scale : goal.overflow_mul-scale
overflow_mul-scale c = omega (arith, fits c.loop-p.invariant.kept 0 (omega arith) (omega arith) (omega arith))

pub loop-p-preserved : goal.loop-p-preserved
loop-p-preserved c =
    let a = c.args in
    let p = c.loop-p.p in
    let one : a.before - (p + 1 - a.at) ≡ a.before - (p - a.at) - 1 = omega arith in
    record {
      kept = rw one (turn c.loop-p.invariant.kept c.from-b.ensures (omega arith) (omega arith) (omega arith) (omega arith));
      within = omega arith;
    }
