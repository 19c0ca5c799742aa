-- The third promise holds of whatever the code ensures. Assumes nothing.
use Prim.Native.Nat.{ℕ, ◌+◌, ◌-◌, min}
use mathlib.Core.Path.{◌≡◌, ap, sym, subst, ◌∙◌}
use mathlib.Core.List.{List}
use lib.ListN.{length}
use Rattle.std.specs.Prelude.{Option, Some, None, Result, Ok, Err}
use Rattle.refusal.specs.Number.{number_of}
use Rattle.refusal.specs.declared.Refusal.{Refusal}
use Rattle.refusal.specs.declared.Refusal.TheVariants as re
use Rattle.directory.specs.Search.{stored}
use Rattle.reader.specs.Answers.{range_of, said_lookup}
use Rattle.reader.specs.Ranges.{Range}
use Rattle.reader.specs.declared.Located.{Located}
use Rattle.reader.proofs.Only.{one-lookup}
use Rattle.acceptance.specs.Answers.{counts_of}
use Rattle.acceptance.specs.declared.Counts.{Counts}
use Rattle.writer.specs.Answers.{BuiltFrom, building}
use Rattle.writer.specs.Stock.{Typed}
use Rattle.writer.specs.declared.Sizes.{Sizes}
use Rattle.publisher.specs.Calls.{Parts, total_of}
use Rattle.publisher.specs.declared.Settings.{Settings}
use Rattle.publisher.proofs.Only.{one-published}
use Rattle.archive.specs.Demand.{Publication, Tile, Whole, asked, by_coord, by_id, parts_of}
use Rattle.archive.specs.Promise.{Answers, Promise3, Row, Told, parts, place}
use Rattle.archive.proofs.Kept.{Kept, parts_are, publication, row_kept}

answers-asked : (a : List ℕ) (t : Tile) (r : Result (Option Located) Refusal) → Answers a t r → said_lookup r ≡ asked a t
answers-asked a (by_id id h) r e = e
answers-asked a (by_coord z x y hz hx hy) r e = e

-- one answer is permitted, so what the definition says is what was answered
told : (p : Publication) (dest : List ℕ) (w : Whole p dest) (t : Tile) (a : Result (Option Located) Refusal) → Answers dest t a → Told p.entries (16384 + length p.metadata) t a
told p dest w t a e =
    let s : said_lookup a ≡ asked dest t = answers-asked dest t a e in
    record {
      found = λ x m c. one-lookup a (Ok (Some (place (16384 + length p.metadata) x))) (s ∙ w.found t x m c);
      only_covered = λ l q.
          let h = w.only_covered t (range_of l) (sym s ∙ ap said_lookup q) in
          (h.0, h.1, h.2, ap {B = Located} (λ (k : Range). record { start = record { 0 = k.start }; length = k.size }) h.3);
      otherwise_absent = λ k. one-lookup a (Ok None) (s ∙ w.otherwise_absent t k);
      never_refused = λ n q. w.never_refused t (number_of n) (sym s ∙ ap said_lookup q);
    }

promised : (p : Publication) (before dest : List ℕ) (position : ℕ) → Kept p before position dest → Promise3 p.entries (parts_of p) before position dest
promised p before dest position k =
    record {
      as_it_was = k.as_it_was;
      bad_magic = λ some few t a e. one-lookup a (Err re.InvalidMagicNumber) (answers-asked dest t a e ∙ k.during some few t);
      whole = λ all. told p dest (k.after all);
      in_plan = k.in_plan;
      next = λ some budget a d c. one-published a (Ok (position + min budget (total_of (parts_of p) - position))) (c.answer ∙ k.next some budget);
    }

-- ---- the theorem

module _
    -- four stores, whose first `count` slots are the entries
    (count : ℕ) (ids runs lengths offsets : List ℕ) (typed : Typed ids runs lengths offsets)
    -- what else is published
    (settings : Settings) (metadata tiles : List ℕ)
    -- two buffers, as they were when `build` was called and as it left them; what it answered
    (root leaves root' leaves' : List ℕ) (sizes : Sizes) (counts : Counts)
    (built : BuiltFrom (building count ids runs lengths offsets (length tiles) (length root) (length leaves)) counts_of (Ok (sizes, counts)) root leaves root' leaves')
    -- a destination, as it was and as a row of calls of `publish` has left it
    (before dest : List ℕ) (position : ℕ)
    (published : Row (parts settings counts sizes root' metadata tiles leaves') 0 before position dest) where
  pub promise-3 : Promise3 (stored count ids runs lengths offsets) (parts settings counts sizes root' metadata tiles leaves') before position dest
  promise-3 =
      subst (λ (x : Parts). Promise3 (stored count ids runs lengths offsets) x before position dest)
      (sym (parts_are count ids runs lengths offsets typed settings metadata tiles root leaves root' leaves' sizes counts built))
      (promised (publication count ids runs lengths offsets typed settings metadata tiles root leaves root' leaves' sizes counts) before dest position
      (row_kept count ids runs lengths offsets typed settings metadata tiles root leaves root' leaves' sizes counts built before dest position published))
