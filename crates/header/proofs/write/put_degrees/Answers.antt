-- `put_degrees` meets its contract. Assumes nothing.
use mathlib.Core.List.{flatten}
use Rattle.header.specs.Bytes.{bytes_of}
use Rattle.header.specs.Header.{header_fields}
use Rattle.header.proofs.write.put_degrees.Goals as goal

pub returns : goal.returns
unfolding flatten bytes_of header_fields
returns c =
    rw (
      c.put_degree-6.ensures,
      c.put_degree-5.ensures,
      c.put_degree-4.ensures,
      c.put_degree-3.ensures,
      c.put_degree-2.ensures,
      c.put_degree.ensures,
    )
