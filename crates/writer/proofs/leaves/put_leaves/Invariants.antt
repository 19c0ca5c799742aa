-- `leaves::put_leaves` meets its contract: a leaf is put into the rest of its buffer, and its length into the root. Assumes nothing.
use mathlib.Core.List.{[], ◌∷◌}
use Rattle.varint.specs.Varint.{narrow}
use Rattle.directory.specs.Encode.{put_all}
use Rattle.writer.specs.Build.{leaves_of}
use Rattle.writer.specs.Cells.{slots}
use Rattle.writer.specs.Cuts.{cuts, leaf_lengths}
use Rattle.writer.proofs.Puts.{Kept}
use Rattle.writer.proofs.leaves.put_leaves.Given as goal

abbrev pub invariant-loop-from : goal.invariant-loop-from
invariant-loop-from l =
    let es = slots l.stores in
    Kept l.initial.root l.start (put_all narrow (leaf_lengths (cuts l.k 0 l.stores.count es))) l.root l.at (put_all narrow (leaf_lengths (cuts l.k l.from l.stores.count es)) ∷ [])
    × Kept l.initial.leaves 0 (leaves_of (cuts l.k 0 l.stores.count es)) l.leaves l.leaf (leaves_of (cuts l.k l.from l.stores.count es) ∷ [])
