-- `stores::find_tile_id` meets its contract: halving finds the last entry whose id is at most the target. Assumes nothing.
use mathlib.Core.Path.{◌∙◌}
use native.Mathlib.Omega.{arith}
use borrow.Author.Rules.{rules}
use lib.Dec.{leb}
use Rattle.std.proofs.lemmas.List.Sorted.{IsPartitionPoint-from_clause}
use Rattle.search.proofs.Finding.{halved, looked_for, none_found, one_found}
use Rattle.search.proofs.stores.find_tile_id.Goals as goal

pub returns-in_default : goal.returns-in_default
returns-in_default c =
    let s = c.args.stores.now in
    let t = c.value-t.result in
    let f = looked_for c.in_ok-new.ensures in
    let e = c.value-t.ensures ∙ f.0 ∙ c.value.ensures in
    let j = c.in_ok-check_stores.ensures in
    let w = IsPartitionPoint-from_clause (λ id. leb id t) _ _ c.partition_point-above.ensures.partitioned (halved s.count s.ids.now s.runs.now s.lengths.now s.offsets.now j t) (λ a r q k. search rules) in
    rw e at (none_found s.count s.ids.now s.runs.now s.lengths.now s.offsets.now j t (omega (arith, e, f.1, c.value.ensures)) _ w (omega (arith, c.in_default.ensures)))

pub returns : goal.returns
returns c =
    let s = c.args.stores.now in
    let t = c.value-t.result in
    let f = looked_for c.in_ok-new.ensures in
    let e = c.value-t.ensures ∙ f.0 ∙ c.value.ensures in
    let j = c.in_ok-check_stores.ensures in
    let w = IsPartitionPoint-from_clause (λ id. leb id t) _ _ c.partition_point-above.ensures.partitioned (halved s.count s.ids.now s.runs.now s.lengths.now s.offsets.now j t) (λ a r q k. search rules) in
    rw e at (c.answer.ensures ∙ one_found s.count s.ids.now s.runs.now s.lengths.now s.offsets.now j t (omega (arith, e, f.1, c.value.ensures)) _ w c.in-Some.i (omega arith) (omega arith))
