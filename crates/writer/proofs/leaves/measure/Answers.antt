-- `leaves::measure` meets its contract. The loop keeps that what is counted and what the leaves to come take are the whole. Assumes nothing.
use Prim.Native.Nat.{ℕ, ◌*◌, ◌-◌, ◌≤◌, ◌<◌}
use mathlib.Core.Path.{◌≡◌, refl, ap, sym, ◌∙◌}
use mathlib.Core.List.{[]}
use native.Mathlib.Omega.{arith}
use lib.ListN.{get_or, length, length-append}
use Rattle.varint.specs.Varint.{narrow, put, wide}
use Rattle.varint.proofs.Shortest.{put-size}
use Rattle.directory.specs.Encode.{encode}
use Rattle.writer.specs.Build.{leaves_of}
use Rattle.writer.specs.Cells.{part, slots}
use Rattle.writer.specs.Cuts.{cuts, leaf_end_lem}
use Rattle.writer.proofs.Cut.{cuts-count, cuts-last, cuts-more, cuts-none, end-in, end_low, first-is, firsts-rising, leaf-size}
use Rattle.writer.proofs.Lengths.{narrow-is}
use Rattle.writer.proofs.Parts.{entries-length}
use Rattle.writer.proofs.Pointers.{root-length, root-more, root_none, root_size}
use Rattle.writer.proofs.Stocks.{accepts-few, accepts-ready}
use Rattle.writer.proofs.leaves.measure.Goals as goal
use Rattle.writer.proofs.leaves.measure.Goals.{After-size-2, After-size-in-loop-from, else-loop-from-test, then-loop-from-test+else-k-from-end}

-- a turn's leaf: where it ends, how long it is, and how much its pointer takes
record Turn (c : After-size-in-loop-from) : Type 0 where
  few : c.args.stores.now.count ≤ 16777216
  low : c.loop-from.from < c.leaf_end-to.result
  high : c.leaf_end-to.result ≤ c.args.stores.now.count
  long : c.sized-length.result ≤ 40 * (c.leaf_end-to.result - c.loop-from.from)
  first : c.size.result ≤ 10
  short : c.size-in-loop-from.result ≤ 5
  leaf : let a = c.args in c.sized-length.result ≡ length (encode (part c.loop-from.from (leaf_end_lem c.loop-from.from a.k a.stores.now.count) (slots a.stores.now)))
  pointer : c.size-in-loop-from.result ≡ length (put narrow c.sized-length.result)

turn : (c : After-size-in-loop-from) → Turn c
turn c =
    let a = c.args in
    let l = c.loop-from in
    let es = slots a.stores.now in
    let p = c.requires in
    let to = leaf_end_lem l.from a.k a.stores.now.count in
    let le = c.leaf_end-to.ensures in
    let e = end-in l.from a.k a.stores.now.count p.0 c.loop-from-test.true in
    let s = leaf-size es a.k l.from a.stores.now.count p.0 c.loop-from-test.true p.1.inside p.1.accepts in
    let z = c.sized-length.ensures ∙ ap (λ (t : ℕ). length (encode (part l.from t es))) le in
    let q = c.size-in-loop-from.ensures ∙ ap length (narrow-is c.sized-length.result (omega arith)) in
    record {
      few = accepts-few a.stores.now.count es p.1.inside p.1.accepts;
      low = omega arith;
      high = omega arith;
      long = omega arith;
      first = omega (arith, c.size.ensures, put-size wide (get_or a.stores.now.ids.now l.from 0 - l.prev));
      short = omega (arith, put-size narrow c.sized-length.result);
      leaf = z;
      pointer = q;
    }

pub loop-from-init : goal.loop-from-init
loop-from-init c =
    let a = c.args in
    let p = c.requires in
    (omega arith, omega arith, firsts-rising a.stores.now.ids.now a.stores.now.runs.now a.stores.now.lengths.now a.stores.now.offsets.now a.k a.stores.now.count p.0 p.1.inside p.1.accepts, omega arith, omega arith, omega arith)

pub sized-length-requires : goal.sized-length-requires
sized-length-requires c =
    let a = c.args in
    let l = c.loop-from in
    let e = end-in l.from a.k a.stores.now.count c.requires.0 c.loop-from-test.true in
    rw c.leaf_end-to.ensures (accepts-ready a.stores.now.count (slots a.stores.now) c.requires.1.inside c.requires.1.accepts l.from (leaf_end_lem l.from a.k a.stores.now.count) (omega arith) e.1)

pub offset_bounds-stores-from : goal.offset_bounds-stores-from
offset_bounds-stores-from c = let a = c.args in record { fits = omega (arith, accepts-few a.stores.now.count (slots a.stores.now) c.requires.1.inside c.requires.1.accepts) }

pub bounds-stores-from : goal.bounds-stores-from
bounds-stores-from c = let a = c.args in omega (arith, c.requires.1.inside, entries-length a.stores.now.ids.now a.stores.now.runs.now a.stores.now.lengths.now a.stores.now.offsets.now)

pub overflow_sub-id : goal.overflow_sub-id
overflow_sub-id c =
    let a = c.args in
    let l = c.loop-from in
    let r = rw (cuts-more (slots a.stores.now) a.k l.from a.stores.now.count c.requires.0 c.loop-from-test.true c.requires.1.inside) at l.invariant.2 in
    rw (first-is a.stores.now.ids.now a.stores.now.runs.now a.stores.now.lengths.now a.stores.now.offsets.now a.k a.stores.now.count c.requires.0 c.requires.1.inside l.from c.loop-from-test.true) at r.0

pub overflow_add-root : goal.overflow_add-root
overflow_add-root c = let t = turn (goal.at.overflow_add-root c).After-size-in-loop-from in record { fits = omega (arith, t.few) }

pub overflow_add-root-in-loop-from : goal.overflow_add-root-in-loop-from
overflow_add-root-in-loop-from c = let t = turn (goal.at.overflow_add-root-in-loop-from c).After-size-in-loop-from in record { fits = omega (arith, t.few) }

pub overflow_add-root-in-loop-from-2 : goal.overflow_add-root-in-loop-from-2
overflow_add-root-in-loop-from-2 c = let t = turn (goal.at.overflow_add-root-in-loop-from-2 c).After-size-in-loop-from in record { fits = omega (arith, t.few) }

pub overflow_add-leaves : goal.overflow_add-leaves
overflow_add-leaves c = let t = turn (goal.at.overflow_add-leaves c).After-size-in-loop-from in record { fits = omega (arith, t.few) }

pub loop-from-preserved : goal.loop-from-preserved
loop-from-preserved c =
    let a = c.args in
    let l = c.loop-from in
    let es = slots a.stores.now in
    let t = turn (goal.at.loop-from-preserved c).After-size-in-loop-from in
    let le = c.leaf_end-to.ensures in
    let m = cuts-more es a.k l.from a.stores.now.count c.requires.0 c.loop-from-test.true c.requires.1.inside in
    let f = first-is a.stores.now.ids.now a.stores.now.runs.now a.stores.now.lengths.now a.stores.now.offsets.now a.k a.stores.now.count c.requires.0 c.requires.1.inside l.from c.loop-from-test.true in
    let q = rw f at (ap (root_size l.prev) m ∙ root-more l.prev _ _) in
    rw (end_low l.from a.k a.stores.now.count (omega arith)) (
      omega (arith, t.low),
      omega (arith, t.low),
      (rw (m, f) at l.invariant.2).1,
      omega (arith, q, c.size.ensures, t.pointer, ap (λ (x : ℕ). length (put narrow x)) t.leaf),
      omega (arith, t.leaf, ap (λ cs. length (leaves_of cs)) m, length-append (encode (part l.from (leaf_end_lem l.from a.k a.stores.now.count) es)) (leaves_of (cuts a.k (leaf_end_lem l.from a.k a.stores.now.count) a.stores.now.count es))),
      omega (arith, t.high),
    )

-- after the last turn
record Ends (c : After-size-2) : Type 0 where
  root : c.loop-from-test.root ≡ root_size 0 (cuts c.args.k 0 c.args.stores.now.count (slots c.args.stores.now))
  leaves : c.loop-from-test.leaves ≡ length (leaves_of (cuts c.args.k 0 c.args.stores.now.count (slots c.args.stores.now)))
  small : c.loop-from-test.root ≤ 22 * c.args.stores.now.count

ends : (c : After-size-2) → Ends c
ends c =
    let a = c.args in
    let s = a.stores.now in
    let l = c.loop-from in
    let es = slots s in
    let p = c.requires in
    elim c.loop-from-test.branch [
      | else-loop-from-test w ↦
          let z = cuts-none es a.k l.from s.count w.loop-from-test.false in
          record {
            root = omega (arith, w.root-is, ap (root_size l.prev) z ∙ root_none l.prev);
            leaves = omega (arith, w.leaves-is, ap (λ cs. length (leaves_of cs)) z);
            small = omega (arith, w.root-is);
          }
      | then-loop-from-test+else-k-from-end w ↦
          let h = w.loop-from-test.true in
          let m = cuts-last es a.k l.from s.count p.0 h p.1.inside (omega arith) in
          let f = first-is s.ids.now s.runs.now s.lengths.now s.offsets.now a.k s.count p.0 p.1.inside l.from h in
          let b = leaf-size es a.k l.from s.count p.0 h p.1.inside p.1.accepts in
          let leaf = w.sized-length.ensures ∙ ap (λ (t : ℕ). length (encode (part l.from t es))) w.leaf_end-to.ensures in
          let pointer = w.size-in-loop-from.ensures ∙ ap length (narrow-is w.sized-length.result (omega arith)) in
          let q = rw f at (ap (root_size l.prev) m ∙ root-more l.prev _ _) in
          record {
            root = omega (arith, w.root-is, q, w.size.ensures, pointer, ap (λ (x : ℕ). length (put narrow x)) leaf, root_none (get_or s.ids.now l.from 0));
            leaves = omega (arith, w.leaves-is, leaf, ap (λ cs. length (leaves_of cs)) m, length-append (encode (part l.from (leaf_end_lem l.from a.k s.count) es)) []);
            small = omega (arith, w.root-is, w.size.ensures, pointer, put-size wide (get_or s.ids.now l.from 0 - l.prev), put-size narrow w.sized-length.result);
          }
    ]

pub overflow_add-result : goal.overflow_add-result
overflow_add-result c =
    let e = ends (goal.at.overflow_add-result c).After-size-2 in
    record { fits = omega (arith, e.small, c.size-2.ensures, put-size wide c.div_ceil-n.result, accepts-few c.args.stores.now.count (slots c.args.stores.now) c.requires.1.inside c.requires.1.accepts) }

pub returns : goal.returns
returns c =
    let s = c.args.stores.now in
    let e = ends (goal.at.returns c).After-size-2 in
    let many : c.div_ceil-n.result ≡ length (cuts c.args.k 0 s.count (slots s)) = c.div_ceil-n.ensures ∙ sym (cuts-count (slots s) c.args.k s.count c.requires.0 c.requires.1.inside) in
    record {
      leaf = refl;
      many = many;
      root = omega (arith, e.root, c.size-2.ensures, root-length (cuts c.args.k 0 c.args.stores.now.count (slots c.args.stores.now)), ap (λ (x : ℕ). length (put wide x)) many);
      leaves = e.leaves;
    }
