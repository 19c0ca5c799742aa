-- `leaves::put_leaves` meets its contract: a leaf is put into the rest of its buffer, and its length into the root. Assumes nothing.
use mathlib.Core.Path.{◌≡◌, refl, ap, ◌∙◌}
use native.Mathlib.Omega.{arith}
use lib.ListN.{length}
use Rattle.varint.specs.Varint.{narrow, put, wide}
use Rattle.directory.specs.Encode.{encode, put_all}
use Rattle.writer.specs.Build.{leaves_of}
use Rattle.writer.specs.Cells.{part, slots}
use Rattle.writer.specs.Cuts.{leaf_end_lem, leaf_lengths}
use Rattle.writer.proofs.Cut.{cuts-last, cuts-more, cuts-none, end-in, end_low, leaf-size, next-leaf}
use Rattle.writer.proofs.Lengths.{narrow-is}
use Rattle.writer.proofs.Puts.{last_empty, number, onward, room}
use Rattle.writer.proofs.Rest.{rest-room, rest-wrote}
use Rattle.writer.proofs.Stocks.{accepts-ready}
use Rattle.writer.proofs.leaves.put_leaves.Goals as goal

pub put_entries-length-requires : goal.put_entries-length-requires
put_entries-length-requires c =
    let a = c.args in
    let l = c.loop-from in
    let es = slots a.stores.now in
    let e = end-in l.from a.k a.stores.now.count c.requires.0 c.loop-from-test.true in
    let m = cuts-more es a.k l.from a.stores.now.count c.requires.0 c.loop-from-test.true c.requires.1.inside in
    rw c.leaf_end-to.ensures
    (accepts-ready a.stores.now.count es c.requires.1.inside c.requires.1.accepts l.from (leaf_end_lem l.from a.k a.stores.now.count) (omega arith) e.1, rest-room l.leaves l.leaf _ (room (next-leaf l.invariant.1 m) (omega (arith, c.requires.3))))

pub put_number-at-requires : goal.put_number-at-requires
put_number-at-requires c =
    let a = c.args in
    let l = c.loop-from in
    let es = slots a.stores.now in
    let m = cuts-more es a.k l.from a.stores.now.count c.requires.0 c.loop-from-test.true c.requires.1.inside in
    let s = leaf-size es a.k l.from a.stores.now.count c.requires.0 c.loop-from-test.true c.requires.1.inside c.requires.1.accepts in
    let z : c.put_entries-length.result ≡ length (encode (part l.from (leaf_end_lem l.from a.k a.stores.now.count) es)) = omega (arith, (rw c.leaf_end-to.ensures at c.put_entries-length.ensures).past) in
    rw (ap (put wide) z ∙ narrow-is _ s.1) (room (number narrow l.invariant.0 (ap leaf_lengths m)) c.requires.2)

pub overflow_add-leaf : goal.overflow_add-leaf
overflow_add-leaf c =
    let a = c.args in
    let l = c.loop-from in
    let m = cuts-more (slots a.stores.now) a.k l.from a.stores.now.count c.requires.0 c.loop-from-test.true c.requires.1.inside in
    let fits = room (next-leaf l.invariant.1 m) (omega (arith, c.requires.3)) in
    record { fits = omega (arith, (rw c.leaf_end-to.ensures at c.put_entries-length.ensures).past, l.invariant.1.same) }

pub loop-from-preserved : goal.loop-from-preserved
loop-from-preserved c =
    let a = c.args in
    let l = c.loop-from in
    let es = slots a.stores.now in
    let m = cuts-more es a.k l.from a.stores.now.count c.requires.0 c.loop-from-test.true c.requires.1.inside in
    let s = leaf-size es a.k l.from a.stores.now.count c.requires.0 c.loop-from-test.true c.requires.1.inside c.requires.1.accepts in
    let w = rw c.leaf_end-to.ensures at c.put_entries-length.ensures in
    let z : c.put_entries-length.result ≡ length (encode (part l.from (leaf_end_lem l.from a.k a.stores.now.count) es)) = omega (arith, w.past) in
    let fits = room (next-leaf l.invariant.1 m) (omega (arith, c.requires.3)) in
    let e = end_low l.from a.k a.stores.now.count (omega arith) in
    rw e (
      onward (number narrow l.invariant.0 (ap leaf_lengths m)) (rw (ap (put wide) z ∙ narrow-is _ s.1) at c.put_number-at.ensures),
      onward (next-leaf l.invariant.1 m) (rest-wrote l.leaves l.leaf _ fits _ _ w),
    )

pub returns : goal.returns
returns c =
    let a = c.args in
    let l = c.loop-from in
    let z = cuts-none (slots a.stores.now) a.k l.from a.stores.now.count c.loop-from-test.false in
    (last_empty l.invariant.0 (ap (λ cs. put_all narrow (leaf_lengths cs)) z), (last_empty l.invariant.1 (ap leaves_of z)).held)

pub returns-2 : goal.returns-2
returns-2 c =
    let a = c.args in
    let l = c.loop-from in
    let es = slots a.stores.now in
    let m = cuts-last es a.k l.from a.stores.now.count c.requires.0 c.loop-from-test.true c.requires.1.inside (omega arith) in
    let s = leaf-size es a.k l.from a.stores.now.count c.requires.0 c.loop-from-test.true c.requires.1.inside c.requires.1.accepts in
    let w = rw c.leaf_end-to.ensures at c.put_entries-length.ensures in
    let z : c.put_entries-length.result ≡ length (encode (part l.from (leaf_end_lem l.from a.k a.stores.now.count) es)) = omega (arith, w.past) in
    let fits = room (next-leaf l.invariant.1 m) (omega (arith, c.requires.3)) in (
      last_empty (onward (number narrow l.invariant.0 (ap leaf_lengths m)) (rw (ap (put wide) z ∙ narrow-is _ s.1) at c.put_number-at.ensures)) refl,
      (last_empty (onward (next-leaf l.invariant.1 m) (rest-wrote l.leaves l.leaf _ fits _ _ w)) refl).held,
    )
