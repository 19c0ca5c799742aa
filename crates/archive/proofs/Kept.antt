-- What a row of calls of `publish` has left, by what the code ensures and in the definitions' words. Assumes nothing.
use Prim.Native.Nat.{ℕ, ◌+◌, ◌-◌, ◌≤◌, ◌<◌, min}
use mathlib.Core.Path.{◌≡◌, refl, ap, sym, subst, ◌∙◌}
use mathlib.Core.List.{List, [], ◌∷◌}
use mathlib.Core.Logic.{◌⊎◌, inl, inr}
use native.Mathlib.Omega.{arith}
use lib.ListN.{length, take}
use Rattle.std.specs.Prelude.{Ok}
use Rattle.refusal.specs.Out.{Out, ok, bad, ◌>>=◌}
use Rattle.refusal.proofs.OutLaws.{ok-is}
use Rattle.directory.specs.Entries.{Entry}
use Rattle.directory.specs.Search.{stored}
use Rattle.acceptance.specs.Accept.{accepting}
use Rattle.acceptance.specs.Answers.{counts_of}
use Rattle.acceptance.specs.declared.Counts.{Counts}
use Rattle.acceptance.proofs.Accepts.{accepting-sound}
use Rattle.writer.specs.Answers.{BuiltFrom, building}
use Rattle.writer.specs.Build.{build}
use Rattle.writer.specs.Stock.{Typed}
use Rattle.writer.specs.declared.Sizes.{Sizes}
use Rattle.writer.proofs.Growth.{root-fits}
use Rattle.publisher.specs.Calls.{AcceptedFor, Parts, Standing, calls, stores_of, total_of}
use Rattle.publisher.specs.declared.Settings.{Settings}
use Rattle.publisher.proofs.Admitted.{publishes}
use Rattle.publisher.proofs.Demand.{length-stores}
use Rattle.publisher.proofs.Stores.{length-stored}
use Rattle.archive.specs.Demand.{Demand3, Publication, Publishable, Tile, Whole, after_stores, all_stores, asked, parts_of, reached}
use Rattle.archive.specs.Promise.{Row, more, none, parts}
use Rattle.archive.proofs.Contracts.{Made, answering, built-is, called, publishable-is, standing}
use Rattle.archive.proofs.Demand.{demand-3}

pub record Kept (p : Publication) (before : List ℕ) (position : ℕ) (dest : List ℕ) : Type 0 where
  pub as_it_was : position ≡ 0 → dest ≡ before
  pub during : 0 < position → position < total_of (parts_of p) → (t : Tile) → asked dest t ≡ bad 2
  pub after : position ≡ total_of (parts_of p) → Whole p dest
  pub in_plan : position ≤ total_of (parts_of p)
  pub next : 0 < position → (budget : ℕ) → answering (parts_of p) budget (standing position dest) ≡ ok (position + min budget (total_of (parts_of p) - position))

-- ---- rows

-- a row is calls with some budgets
row-calls : {x : Parts} {p q : ℕ} {d e : List ℕ} → Row x p d q e → (budgets : List ℕ) × (calls x budgets (standing p d) ≡ ok (standing q e))
row-calls none = ([], refl)
row-calls {x} {p = p} {d = d} (more {next = n} {dest' = d'} budget c r) =
    let rest = row-calls r in
    (budget ∷ rest.0, ap (λ (o : Out Standing). o >>= calls x rest.0) (called x budget (standing p d) (Ok n) d' c.answer c.bytes) ∙ rest.1)

-- it ends where it begins, or its first call was not refused
row_first : {x : Parts} {p q : ℕ} {d e : List ℕ} → Row x p d q e
    → ((q ≡ p) × (e ≡ d)) ⊎ ((budget : ℕ) × (n : ℕ) × (answering x budget (standing p d) ≡ ok n))
row_first none = inl (refl, refl)
row_first (more {next = n} budget c r) = inr (budget, n, sym c.answer)

-- where no call was made, nothing has changed
unstarted : (p : Publication) (before dest : List ℕ) (position : ℕ) → position ≡ 0 → dest ≡ before → Kept p before position dest
unstarted p before dest position z e =
    record {
      as_it_was = λ _. e;
      during = λ some few t. absurd (omega arith);
      after = λ all. absurd (omega arith);
      in_plan = omega arith;
      next = λ some budget. absurd (omega arith);
    }

-- where one was not refused, what is published may be published, and the demand holds
module _ (p : Publication) (before dest : List ℕ) (position : ℕ) (pb : Publishable p before) (r : Row (parts_of p) 0 before position dest) where
  demanded : Demand3 p before
  demanded = demand-3 p before pb

  abbrev budgets : List ℕ
  budgets = (row-calls r).0

  stands : standing position dest ≡ standing (reached p budgets) (after_stores p (reached p budgets) before)
  stands = ok-is (sym (row-calls r).1 ∙ demanded.any_calls budgets)

  reached-is : position ≡ reached p budgets
  reached-is = ap (λ (s : Standing). s.position) stands

  dest-is : dest ≡ after_stores p position before
  dest-is = ap (λ (s : Standing). s.dest) stands ∙ ap (λ (n : ℕ). after_stores p n before) (sym reached-is)

  all-is : all_stores p ≡ total_of (parts_of p)
  all-is = length-stores _ _ _ _ _ _

  in-plan : position ≤ total_of (parts_of p)
  in-plan = omega (arith, reached-is, all-is)

  same_length : length dest ≡ length before
  same_length = ap length dest-is ∙ length-stored (take position (stores_of (parts_of p))) before

  accepted : AcceptedFor (parts_of p) dest
  accepted =
      record { compression = pb.compression; type = pb.type; sum = pb.fits; root = root-fits p.entries; room = rw same_length pb.room }

  started : Kept p before position dest
  started =
      record {
        as_it_was = λ z. dest-is ∙ ap (λ (n : ℕ). after_stores p n before) z ∙ demanded.before;
        during = λ some few t. ap (λ (d : List ℕ). asked d t) dest-is ∙ demanded.during position some (omega (arith, all-is)) t;
        after = λ all. subst (Whole p) (sym (dest-is ∙ ap (λ (n : ℕ). after_stores p n before) (all ∙ sym all-is))) demanded.after;
        in_plan = in-plan;
        next = λ some budget. publishes _ _ _ _ _ (length dest) position budget accepted in-plan;
      }

-- ---- what was built, published

parts-by : (settings : Settings) (metadata tiles root leaves : List ℕ) (sizes : Sizes) (counts : Counts) (es fs : List Entry) → es ≡ fs
    → counts ≡ counts_of fs → take sizes.root root ≡ (build fs).root → take sizes.leaves leaves ≡ (build fs).leaves
    → parts settings counts sizes root metadata tiles leaves ≡ parts_of (record { settings = settings; entries = es; metadata = metadata; tiles = tiles })
parts-by settings metadata tiles root leaves sizes counts es fs e c r l = rw (e, c, r, l)

module _ (count : ℕ) (ids runs lengths offsets : List ℕ) (typed : Typed ids runs lengths offsets) (settings : Settings) (metadata tiles : List ℕ)
    (root leaves root' leaves' : List ℕ) (sizes : Sizes) (counts : Counts) where
  abbrev pub publication : Publication
  publication = record { settings = settings; entries = stored count ids runs lengths offsets; metadata = metadata; tiles = tiles }

  module _
      (built : BuiltFrom (building count ids runs lengths offsets (length tiles) (length root) (length leaves)) counts_of (Ok (sizes, counts)) root leaves root' leaves') where
    from-made : (es : List Entry) × Made count ids runs lengths offsets (length tiles) root leaves root' leaves' sizes counts es
    from-made = built-is count ids runs lengths offsets (length tiles) root leaves root' leaves' sizes counts built

    taken : stored count ids runs lengths offsets ≡ from-made.0
    taken = (accepting-sound count ids runs lengths offsets (length tiles) from-made.0 from-made.1.accepted).1

    accepts : accepting count ids runs lengths offsets (length tiles) ≡ ok (stored count ids runs lengths offsets)
    accepts = from-made.1.accepted ∙ ap ok (sym taken)

    pub parts_are : parts settings counts sizes root' metadata tiles leaves' ≡ parts_of publication
    parts_are =
        parts-by settings metadata tiles root' leaves' sizes counts (stored count ids runs lengths offsets) from-made.0 taken
        from-made.1.counted from-made.1.in_root from-made.1.in_leaves

    module _ (before dest : List ℕ) (position : ℕ) (published : Row (parts settings counts sizes root' metadata tiles leaves') 0 before position dest) where
      pub row_kept : Kept publication before position dest
      row_kept = go (row_first row)
        where
          row : Row (parts_of publication) 0 before position dest
          row = subst (λ (x : Parts). Row x 0 before position dest) parts_are published

          go : ((position ≡ 0) × (dest ≡ before)) ⊎ ((budget : ℕ) × (n : ℕ) × (answering (parts_of publication) budget (standing 0 before) ≡ ok n))
              → Kept publication before position dest
          go (inl (z, e)) = unstarted publication before dest position z e
          go (inr (budget, n, e)) = started publication before dest position (publishable-is publication before count ids runs lengths offsets 0 budget n typed accepts e) row
