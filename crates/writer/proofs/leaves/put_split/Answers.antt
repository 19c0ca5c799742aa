-- `leaves::put_split` meets its contract: column by column, what is put of the root and what is still to come are the whole. Assumes nothing.
use Prim.Native.Nat.{ℕ, ◌<◌}
use mathlib.Core.Path.{sym}
use mathlib.Core.List.{List}
use native.Mathlib.Omega.{arith}
use lib.ListN.{length-replicate, length-take, take}
use Rattle.directory.specs.Encode.{encode}
use Rattle.writer.specs.Build.{pointers}
use Rattle.directory.specs.declared.Stores.{Stores}
use Rattle.writer.specs.Stock.{Stocked}
use Rattle.writer.specs.Cells.{slots}
use Rattle.writer.specs.Cuts.{Measured, cuts, every, leaf_lengths}
use Rattle.writer.specs.declared.leaves.Split.{Split}
use Rattle.writer.proofs.Cut.{firsts-are, front-rise}
use Rattle.writer.proofs.Parts.{entries-length, front}
use Rattle.writer.proofs.Pointers.{codes-length, encode-pointers, root_columns}
use Rattle.writer.proofs.Puts.{Kept, begin, done, onward, room}
use Rattle.writer.proofs.leaves.put_split.Goals as goal

-- nothing is put yet
none-put : (s : Stores) (p : Split) (out : List ℕ) → 0 < p.leaf → Stocked s → Measured s.count (slots s) p.leaf p
    → let leaves = cuts p.leaf 0 s.count (slots s) in Kept out 0 (encode (pointers 0 leaves)) out 0 (root_columns p.pointers (every p.leaf 0 (take s.count s.ids.now)) (leaf_lengths leaves))
none-put s p out some q m =
    let leaves = cuts p.leaf 0 s.count (slots s) in
    begin out 0 (encode (pointers 0 leaves)) (root_columns p.pointers (every p.leaf 0 (take s.count s.ids.now)) (leaf_lengths leaves))
    (rw (front s.count s.ids.now) (rw (firsts-are s.ids.now s.runs.now s.lengths.now s.offsets.now p.leaf s.count some q.inside, sym m.many) at (encode-pointers leaves)))

pub slice_bounds-put_first_ids-end : goal.slice_bounds-put_first_ids-end
slice_bounds-put_first_ids-end c = let s = c.args.stores.now in simp length-take (omega (arith, c.requires.1.inside, entries-length s.ids.now s.runs.now s.lengths.now s.offsets.now))

pub put_number-a-requires : goal.put_number-a-requires
put_number-a-requires c = let a = c.args in let r = c.requires in room (none-put a.stores.now a.split a.root.now r.0 r.1 r.2) (omega (arith, r.3, r.2.root))

pub put_first_ids-b-requires : goal.put_first_ids-b-requires
put_first_ids-b-requires c =
    let a = c.args in
    let s = a.stores.now in
    let r = c.requires in (
      r.0,
      rw front (front-rise s.ids.now s.runs.now s.lengths.now s.offsets.now a.split.leaf s.count r.0 r.1.inside r.1.accepts),
      room (onward (none-put s a.split a.root.now r.0 r.1 r.2) c.put_number-a.ensures) (omega (arith, r.3, r.2.root)),
    )

pub put_zeros-c-requires : goal.put_zeros-c-requires
put_zeros-c-requires c =
    let a = c.args in
    let r = c.requires in
    rw (length-replicate {A = ℕ} a.split.pointers 0) at (room (onward (onward (none-put a.stores.now a.split a.root.now r.0 r.1 r.2) c.put_number-a.ensures) c.put_first_ids-b.ensures) (omega (arith, r.3, r.2.root)))

pub put_leaves-d-requires : goal.put_leaves-d-requires
put_leaves-d-requires c =
    let a = c.args in
    let r = c.requires in
    (r.0, r.1, room (onward (onward (onward (none-put a.stores.now a.split a.root.now r.0 r.1 r.2) c.put_number-a.ensures) c.put_first_ids-b.ensures) c.put_zeros-c.ensures) (omega (arith, r.3, r.2.root)), omega (arith, r.4, r.2.leaves))

pub put_codes-requires : goal.put_codes-requires
put_codes-requires c =
    let a = c.args in
    let r = c.requires in
    rw (codes-length a.split.pointers) at (room (onward (onward (onward (onward (none-put a.stores.now a.split a.root.now r.0 r.1 r.2) c.put_number-a.ensures) c.put_first_ids-b.ensures) c.put_zeros-c.ensures) c.put_leaves-d.ensures.0) (omega (arith, r.3, r.2.root)))

pub returns : goal.returns
returns c =
    let a = c.args in
    let r = c.requires in
    ((done (onward (onward (onward (onward (onward (none-put a.stores.now a.split a.root.now r.0 r.1 r.2) c.put_number-a.ensures) c.put_first_ids-b.ensures) c.put_zeros-c.ensures) c.put_leaves-d.ensures.0) c.put_codes.ensures)).held, c.put_leaves-d.ensures.1)
