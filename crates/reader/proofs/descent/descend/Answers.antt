-- `descent::descend` meets its contract: a leaf leads on as its pointer did. Assumes nothing.
use Prim.Native.Nat.{◌<◌}
use mathlib.Core.Path.{◌≡◌, sym, ◌∙◌}
use native.Mathlib.Omega.{arith}
use lib.ListN.{length}
use Rattle.refusal.specs.Out.{ok}
use Rattle.directory.specs.Answers.{entry_of, found_of}
use Rattle.directory.specs.Search.{find_in, leaf}
use Rattle.reader.specs.Ranges.{part, range_in_lem}
use Rattle.reader.specs.Answers.{range_of, section_of, sections_given}
use Rattle.reader.proofs.Descents.{one_leaf_on}
use Rattle.reader.proofs.descent.descend.Goals as goal

pub loop-preserved : goal.loop-preserved
loop-preserved c =
    let few : c.loop.counter < 3 = omega (arith, c.loop-test.true) in
    let p : range_in_lem (section_of c.args.s.leaves) (length c.args.archive.now) (entry_of c.in-Leaf.e) ≡ ok (range_of c.in_ok-leaf.leaf) = sym (rw c.in_ok-leaf.was at c.leaf_range.ensures) in
    let q : ok (found_of c.in_ok-found-2.found) ≡ find_in (part c.args.archive.now (range_of c.in_ok-leaf.leaf)) c.args.target.0 = rw (c.part.ensures, c.from.ensures) at c.in_ok-found-2.ensures in
    let same : found_of c.loop.found ≡ leaf (entry_of c.in-Leaf.e) = rw c.in-Leaf.is in
    one_leaf_on (sections_given c.args.s) c.args.archive.now c.args.target.0 3 c.loop.counter (entry_of c.in-Leaf.e) (range_of c.in_ok-leaf.leaf) (found_of c.in_ok-found-2.found) few p q
    ∙ (rw same at c.loop.invariant)
