-- `sizing::sized` meets its contract. The loop keeps that the sum and the size of the rest are the whole size. Assumes nothing.
use Prim.Native.Nat.{ℕ, ◌-◌}
use mathlib.Core.Path.{ap, ◌∙◌}
use native.Mathlib.Omega.{arith}
use lib.ListN.{length}
use Rattle.varint.specs.Varint.{put, wide}
use Rattle.varint.proofs.Shortest.{put-size}
use Rattle.directory.specs.Answers.{end_after, row_entry}
use Rattle.writer.specs.Cells.{part, size_from, slots}
use Rattle.writer.proofs.Lengths.{encode-length, size-more, size_none, size_small}
use Rattle.writer.proofs.Parts.{part_length, part_none, row-more}
use Rattle.writer.proofs.sizing.sized.Goals as goal

pub loop-i-init : goal.loop-i-init
loop-i-init c =
    let a = c.args in
    let es = slots a.stores.now in
    let l = part_length es a.from a.to c.requires.inside in
    (c.requires.codable, omega (arith, put-size wide (a.to - a.from)), omega (arith, c.size-sum.ensures, encode-length (part a.from a.to es), ap (λ (n : ℕ). length (put wide n)) l))

pub entry_size-sum-requires : goal.entry_size-sum-requires
entry_size-sum-requires c =
    let m = row-more c.args.stores.now c.loop-i.i c.args.to c.requires.inside c.loop-i-test.true c.row_at-row.result c.row_at-row.ensures in
    let f = (rw m at c.loop-i.invariant.0).0 in
    f

pub overflow_add-sum : goal.overflow_add-sum
overflow_add-sum c =
    record { fits = omega (arith, c.requires.few, c.entry_size-sum.ensures, size_small c.loop-i.prev (end_after c.loop-i.before) (row_entry c.row_at-row.result)) }

pub loop-i-preserved : goal.loop-i-preserved
loop-i-preserved c =
    let l = c.loop-i in
    let e = row_entry c.row_at-row.result in
    let m = row-more c.args.stores.now l.i c.args.to c.requires.inside c.loop-i-test.true c.row_at-row.result c.row_at-row.ensures in
    rw (c.extent_of.ensures.0, c.extent_of.ensures.1) (
      (rw m at l.invariant.0).1,
      omega (arith, c.entry_size-sum.ensures, size_small l.prev (end_after l.before) e),
      omega (arith, c.entry_size-sum.ensures, ap (size_from l.prev (end_after l.before)) m ∙ size-more l.prev (end_after l.before) e _),
    )

pub returns : goal.returns
returns c =
    let l = c.loop-i in
    omega (arith, ap (size_from l.prev (end_after l.before)) (part_none (slots c.args.stores.now) l.i c.args.to c.loop-i-test.false) ∙ size_none l.prev (end_after l.before))
