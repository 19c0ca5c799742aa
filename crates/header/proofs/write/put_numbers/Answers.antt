-- `put_numbers` meets its contract. Assumes nothing.
use mathlib.Core.List.{flatten}
use Rattle.header.specs.Bytes.{bytes_of}
use Rattle.header.specs.Header.{header_fields}
use Rattle.header.proofs.write.put_numbers.Goals as goal

pub returns : goal.returns
unfolding flatten bytes_of header_fields
returns c =
    rw (
      c.put_u64-11.ensures,
      c.put_u64-10.ensures,
      c.put_u64-9.ensures,
      c.put_u64-8.ensures,
      c.put_u64-7.ensures,
      c.put_u64-6.ensures,
      c.put_u64-5.ensures,
      c.put_u64-4.ensures,
      c.put_u64-3.ensures,
      c.put_u64-2.ensures,
      c.put_u64.ensures,
    )
