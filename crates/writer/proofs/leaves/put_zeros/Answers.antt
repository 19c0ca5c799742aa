-- `leaves::put_zeros` meets its contract. Assumes nothing.
use Prim.Native.Nat.{ℕ}
use native.Mathlib.Omega.{arith}
use lib.ListN.{length-replicate}
use Rattle.writer.proofs.Rest.{zeros-put}
use Rattle.writer.proofs.leaves.put_zeros.Goals as goal

pub returns : goal.returns
returns c =
    let a = c.args in
    record { past = omega (arith, length-replicate {A = ℕ} a.n 0); held = zeros-put a.out.now a.start a.n c.requires _ (c.fill.ensures.after (λ y h. h)) }
