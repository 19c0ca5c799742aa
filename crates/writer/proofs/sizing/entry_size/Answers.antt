-- `sizing::entry_size` meets its contract: no varint has more than ten bytes, so the sums fit. Assumes nothing.
use Prim.Native.Nat.{◌-◌, ◌<◌, ◌^◌}
use native.Mathlib.Omega.{arith}
use Rattle.varint.specs.Varint.{wide}
use Rattle.varint.proofs.Shortest.{put-size}
use Rattle.directory.specs.Answers.{end_after, row_entry}
use Rattle.writer.proofs.Lengths.{size-one}
use Rattle.writer.proofs.sizing.entry_size.Goals as goal

pub overflow_add-result : goal.overflow_add-result
overflow_add-result c = record { fits = omega (arith, put-size wide (c.args.row.id - c.args.prev), put-size wide c.from.result) }

pub overflow_add-result-2 : goal.overflow_add-result-2
overflow_add-result-2 c = record { fits = omega (arith, put-size wide (c.args.row.id - c.args.prev), put-size wide c.from.result, put-size wide c.from-2.result) }

pub overflow_add-result-3 : goal.overflow_add-result-3
overflow_add-result-3 c = record { fits = omega (arith, put-size wide (c.args.row.id - c.args.prev), put-size wide c.from.result, put-size wide c.from-2.result, put-size wide c.unwrap.result) }

pub returns : goal.returns
returns c =
    let a = c.args in
    let run : a.row.run_length < 2 ^ 32 = omega arith in
    let len : a.row.length < 2 ^ 32 = omega arith in
    let z = (rw c.unwrap.ensures at c.code.ensures).1 in
    omega (
      arith,
      size-one a.prev (end_after a.before) (row_entry a.row) run len,
      c.size.ensures,
      rw c.from.ensures at c.size-2.ensures,
      rw c.from-2.ensures at c.size-3.ensures,
      rw z at c.size-4.ensures,
    )
