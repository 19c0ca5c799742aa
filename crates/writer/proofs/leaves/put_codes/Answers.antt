-- `leaves::put_codes` meets its contract. Assumes nothing.
use mathlib.Core.Path.{refl}
use mathlib.Core.List.{[], ◌∷◌}
use Rattle.writer.specs.Cuts.{leaf_codes}
use Rattle.writer.proofs.Pointers.{codes-none, codes-some}
use Rattle.writer.proofs.Puts.{begin, byte, done, last_empty, onward}
use Rattle.writer.proofs.leaves.put_codes.Goals as goal

pub returns-then-n-eq0 : goal.returns-then-n-eq0
returns-then-n-eq0 c = let a = c.args in last_empty (begin a.out.now a.start (leaf_codes a.n) (leaf_codes a.n ∷ []) refl) (codes-none a.n c.if-n-eq0.true)

pub returns : goal.returns
returns c =
    let a = c.args in
    let k = byte (begin a.out.now a.start (leaf_codes a.n) (leaf_codes a.n ∷ []) refl) (codes-some a.n c.if-n-eq0.false) in
    done (onward (onward k (record { past = refl; held = refl })) c.put_zeros.ensures)
