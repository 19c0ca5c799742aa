-- `put` meets its contract. Assumes nothing.
use mathlib.Core.List.{append_assoc}
use mathlib.Core.Path.{◌≡◌}
use Prim.Native.Nat.{◌+◌, ◌-◌}
use native.Mathlib.Omega.{arith}
use lib.ListN.{length}
use lib.Seq.{drop-drop, sets-eq}
use Rattle.header.proofs.write.put.Goals as goal

pub returns : goal.returns
returns c =
    let a = c.args in
    let n : a.at + length a.bytes.now - a.at ≡ length a.bytes.now = omega arith in
    rw (sets-eq a.bytes.now a.out.now a.at c.requires, append_assoc, n, c.copy_from_slice.ensures.after, drop-drop)
