-- `columns::put_entries` meets its contract: column by column, what is put and what is still to come are the whole. Assumes nothing.
use Prim.Native.Nat.{ℕ}
use mathlib.Core.List.{List}
use native.Mathlib.Omega.{arith}
use lib.ListN.{length-drop, length-take}
use Rattle.directory.specs.Encode.{encode}
use Rattle.directory.specs.declared.Stores.{Stores}
use Rattle.writer.specs.Cells.{Ready, part, slots}
use Rattle.writer.proofs.Parts.{codes-below, columns_of, encode-part, entries-length, ids-rise}
use Rattle.writer.proofs.Puts.{Kept, begin, done, onward, room}
use Rattle.writer.proofs.columns.put_entries.Goals as goal

-- nothing is put yet
none-put : (s : Stores) (out : List ℕ) (from to : ℕ) → Ready from to (slots s)
    → Kept out 0 (encode (part from to (slots s))) out 0 (columns_of s.ids.now s.runs.now s.lengths.now s.offsets.now from to)
none-put s out from to r =
    begin out 0 (encode (part from to (slots s))) (columns_of s.ids.now s.runs.now s.lengths.now s.offsets.now from to)
    (encode-part s.ids.now s.runs.now s.lengths.now s.offsets.now from to r.inside r.order)

pub put_number-a-requires : goal.put_number-a-requires
put_number-a-requires c = let a = c.args in room (none-put a.stores.now a.out.now a.from a.to c.requires.0) (omega (arith, c.requires.1))

pub put_ids-b-requires : goal.put_ids-b-requires
put_ids-b-requires c =
    let a = c.args in
    let s = a.stores.now in
    let r = c.requires.0 in (
      ids-rise s.ids.now s.runs.now s.lengths.now s.offsets.now a.from a.to r.inside r.order r.codable,
      room (onward (none-put s a.out.now a.from a.to r) c.put_number-a.ensures) (omega (arith, c.requires.1)),
    )

pub put_numbers-c-requires : goal.put_numbers-c-requires
put_numbers-c-requires c = let a = c.args in room (onward (onward (none-put a.stores.now a.out.now a.from a.to c.requires.0) c.put_number-a.ensures) c.put_ids-b.ensures) (omega (arith, c.requires.1))

pub put_numbers-d-requires : goal.put_numbers-d-requires
put_numbers-d-requires c = let a = c.args in room (onward (onward (onward (none-put a.stores.now a.out.now a.from a.to c.requires.0) c.put_number-a.ensures) c.put_ids-b.ensures) c.put_numbers-c.ensures) (omega (arith, c.requires.1))

pub put_offsets-requires : goal.put_offsets-requires
put_offsets-requires c =
    let a = c.args in
    let s = a.stores.now in
    let r = c.requires.0 in (
      simp (length-take, length-drop) (omega (arith, r.inside, entries-length s.ids.now s.runs.now s.lengths.now s.offsets.now)),
      codes-below s.ids.now s.runs.now s.lengths.now s.offsets.now a.from a.to r.inside r.order r.codable,
      room (onward (onward (onward (onward (none-put s a.out.now a.from a.to r) c.put_number-a.ensures) c.put_ids-b.ensures) c.put_numbers-c.ensures) c.put_numbers-d.ensures) (omega (arith, c.requires.1)),
    )

pub returns : goal.returns
returns c = let a = c.args in done (onward (onward (onward (onward (onward (none-put a.stores.now a.out.now a.from a.to c.requires.0) c.put_number-a.ensures) c.put_ids-b.ensures) c.put_numbers-c.ensures) c.put_numbers-d.ensures) c.put_offsets.ensures)
