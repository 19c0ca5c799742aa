-- `varint::put_at` meets its contract. The loop keeps that the shortest form of the rest, put at the place, is what is wanted. Assumes nothing.
use mathlib.Core.Path.{ap, sym, ◌∙◌}
use native.Mathlib.Numerals.{add-one}
use native.Mathlib.Omega.{arith}
use lib.ListN.{length, length-set}
use lib.Seq.{sets}
use Rattle.varint.specs.Varint.{wide}
use Rattle.varint.proofs.Shortest.{put-more, put_one, put-size}
use Rattle.varint.proofs.put_at.Goals as goal

pub bounds-out-at : goal.bounds-out-at
bounds-out-at c = omega (arith, (put-size wide c.loop-rest.rest).0)

pub loop-rest-preserved : goal.loop-rest-preserved
loop-rest-preserved c =
    let l = c.loop-rest in
    let e = put-more wide l.rest (omega arith) (omega arith) in
    (omega arith, simp length-set l.invariant.1, omega (arith, ap length e), rw add-one (ap (sets l.out l.at) (sym e) ∙ l.invariant.3))

pub bounds-out-at-2 : goal.bounds-out-at-2
bounds-out-at-2 c = omega (arith, (put-size wide c.loop-rest.rest).0)

pub returns : goal.returns
returns c =
    let l = c.loop-rest in
    let e = put_one wide l.rest (omega arith) in
    (omega (arith, ap length e), ap (sets l.out l.at) (sym e) ∙ l.invariant.3)
