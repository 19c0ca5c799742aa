-- `writing::encoded` meets its contract. The loop keeps that the checks of the rest are those of the whole, and so with the sizes. Assumes nothing.
use Prim.Native.Nat.{ℕ}
use mathlib.Core.Path.{◌≡◌, refl, ap, ◌∙◌}
use native.Mathlib.Omega.{arith}
use lib.ListN.{length}
use Rattle.refusal.specs.Out.{ok}
use Rattle.varint.specs.Varint.{put, wide}
use Rattle.varint.proofs.Shortest.{put-size}
use Rattle.directory.specs.Answers.{end_after, row_entry}
use Rattle.directory.specs.Encode.{encode}
use Rattle.writer.specs.Cells.{in_use, part, size_from, slots}
use Rattle.writer.proofs.Coded.{all-bad, all_done, all-on, coded-sound}
use Rattle.writer.proofs.Lengths.{encode-length, size-more, size_none, size_small}
use Rattle.writer.proofs.Parts.{part_length, part_none, row-more}
use Rattle.writer.proofs.writing.encoded.Goals as goal

pub loop-i-init : goal.loop-i-init
loop-i-init c =
    let s = c.args.stores.now in
    let l : length (in_use s) ≡ s.count = omega (arith, part_length (slots s) 0 s.count c.requires.1) in
    (omega arith, omega (arith, put-size wide s.count), omega (arith, c.size-sum.ensures, encode-length (in_use s), ap (λ (n : ℕ). length (put wide n)) l), refl)

pub returns-in_err-lo : goal.returns-in_err-lo
returns-in_err-lo c =
    let s = c.args.stores.now in
    let l = c.loop-i in
    let m = row-more s l.i s.count c.requires.1 c.loop-i-test.true c.row_at-row.result c.row_at-row.ensures in
    let k = all-bad l.lo (end_after l.before) (part l.i s.count (slots s)) (ok (length (encode (in_use s)))) l.invariant.3 m c.in_err-lo.ensures in
    grind arith

pub entry_size-sum-requires : goal.entry_size-sum-requires
entry_size-sum-requires c = let g = coded-sound c.loop-i.lo (end_after c.loop-i.before) _ _ c.in_ok-lo.ensures in (omega (arith, g.0.low), g.1)

pub overflow_add-sum : goal.overflow_add-sum
overflow_add-sum c =
    record { fits = omega (arith, c.requires.0, c.entry_size-sum.ensures, size_small c.loop-i.prev (end_after c.loop-i.before) (row_entry c.row_at-row.result)) }

pub loop-i-preserved : goal.loop-i-preserved
loop-i-preserved c =
    let s = c.args.stores.now in
    let l = c.loop-i in
    let e = row_entry c.row_at-row.result in
    let m = row-more s l.i s.count c.requires.1 c.loop-i-test.true c.row_at-row.result c.row_at-row.ensures in
    let g = coded-sound l.lo (end_after l.before) e _ c.in_ok-lo.ensures in
    rw (c.extent_of.ensures.0, c.extent_of.ensures.1) (
      omega (arith, g.2),
      omega (arith, c.entry_size-sum.ensures, size_small l.prev (end_after l.before) e),
      omega (arith, c.entry_size-sum.ensures, ap (size_from l.prev (end_after l.before)) m ∙ size-more l.prev (end_after l.before) e _),
      all-on l.lo (end_after l.before) (part l.i s.count (slots s)) (ok (length (encode (in_use s)))) l.invariant.3 m c.in_ok-lo.ensures,
    )

pub returns : goal.returns
returns c =
    let s = c.args.stores.now in
    let l = c.loop-i in
    let n = part_none (slots s) l.i s.count c.loop-i-test.false in
    let z : l.sum ≡ length (encode (in_use s)) = omega (arith, ap (size_from l.prev (end_after l.before)) n ∙ size_none l.prev (end_after l.before)) in
    ap ok z ∙ all_done l.lo (end_after l.before) (part l.i s.count (slots s)) (ok (length (encode (in_use s)))) l.invariant.3 n
