-- `varint::number` meets its contract: the loop keeps `Kept`. Assumes nothing.
use Prim.Native.Nat.{◌-◌, ◌≤◌}
use Rattle.varint.proofs.Turns.{Kept}
use Rattle.varint.proofs.number.Given as goal

abbrev pub invariant-loop-p : goal.invariant-loop-p
invariant-loop-p l =
    record {
      kept : Kept (record { before = l.before; cap = l.cap }) l.s l.at l.p (l.before - (l.p - l.at)) l.value l.scale;
      within : l.p - l.at ≤ l.before;
    }
