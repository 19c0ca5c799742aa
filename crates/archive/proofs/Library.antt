-- The third promise holds of whatever the exported functions ensure. Assumes nothing.
use Prim.Native.Nat.{ℕ, ◌+◌, ◌≤◌, ◌<◌}
use mathlib.Core.Path.{◌≡◌, refl, ap, sym, subst, ◌∙◌}
use mathlib.Core.List.{List, [], ◌∷◌, Memᴰ}
use mathlib.Core.Logic.{◌⊎◌, inl, inr}
use mathlib.Core.Option.{Option, none as nothing, some}
use native.Mathlib.Omega.{arith}
use borrow.Author.Tests.{le-leb, leb-true}
use lib.Dec.{leb}
use lib.Ieee.{Float}
use lib.ListN.{drop, get_or, length, take}
use lib.Seq.{sets}
use Rattle.refusal.specs.Out.{Out, ok, bad}
use Rattle.refusal.proofs.OutLaws.{need-ok}
use Rattle.directory.specs.Entries.{Entry}
use Rattle.directory.specs.Search.{Covers, stored}
use Rattle.reader.specs.Ranges.{Range}
use Rattle.acceptance.specs.Accept.{addressed}
use Rattle.acceptance.specs.Answers.{counts_of}
use Rattle.acceptance.specs.declared.Counts.{Counts}
use Rattle.writer.specs.Answers.{BuiltFrom, building}
use Rattle.writer.specs.Build.{build}
use Rattle.writer.specs.Stock.{Typed}
use Rattle.writer.specs.declared.Sizes.{Sizes}
use Rattle.std.specs.Prelude.{Ok}
use Rattle.publisher.specs.Calls.{total_of}
use Rattle.publisher.specs.Publish.{publishing}
use Rattle.pmtiles.specs.Exports.{BuildTold, found, sought, within}
use Rattle.pmtiles.specs.Publishes.{counts_given, publishing_given, settings_in_lem, zooms_fit_lem}
use Rattle.archive.specs.Demand.{Publication, Tile, Whole, asked, by_coord, by_id, id_of, parts_of}
use Rattle.archive.specs.Promise.{Call, Row as Calls, more as one_more, none as no_call}
use Rattle.archive.specs.Library.{Answers, Given, LibraryPromise3, Publishes, Row, Told, given, more, none, parts_given}
use Rattle.archive.proofs.Kept.{Kept, parts_are, publication, row_kept}
use Rattle.archive.proofs.Numbered.{done, of-building, of-given, of-need}

-- ---- slots

four-put : (out : List ℕ) (a b c d : ℕ) → 4 ≤ length out → sets out 0 (a ∷ b ∷ c ∷ d ∷ []) ≡ a ∷ b ∷ c ∷ d ∷ drop 4 out
four-put [] a b c d h = absurd (omega arith)
four-put (w ∷ []) a b c d h = absurd (omega arith)
four-put (w ∷ x ∷ []) a b c d h = absurd (omega arith)
four-put (w ∷ x ∷ y ∷ []) a b c d h = absurd (omega arith)
four-put (w ∷ x ∷ y ∷ z ∷ out) a b c d h = refl

one-put : (out : List ℕ) (a : ℕ) → 1 ≤ length out → get_or (sets out 0 (a ∷ [])) 0 0 ≡ a
one-put [] a h = absurd (omega arith)
one-put (w ∷ out) a h = refl

-- ---- `pmt_build`, done

abbrev sizes_told : List ℕ → Sizes
sizes_told out = record { root = get_or out 0 0; leaves = get_or out 1 0 }

abbrev counts_told : List ℕ → Counts
counts_told out = counts_given (take 2 (drop 2 out))

module _ (n : ℕ) (ids runs lens offs : List ℕ) (size : ℕ) (root root' leaves leaves' out out' : List ℕ) where
  abbrev building-is : Out (List Entry)
  building-is = building n ids runs lens offs size (length root) (length leaves)

  c-built : BuildTold (within 4 out building-is) 0 root root' leaves leaves' out out'
      → BuiltFrom building-is counts_of (Ok (sizes_told out', counts_told out')) root leaves root' leaves'
  unfolding counts_given
  c-built b =
      let d = done (within 4 out building-is) (of-need (leb 4 (length out)) 15 building-is (omega arith) (of-building n ids runs lens offs size (length root) (length leaves))) b.says in
      let es = d.0 in
      let k = need-ok (leb 4 (length out)) 15 building-is es d.1 in
      let o : out' ≡ length (build es).root ∷ length (build es).leaves ∷ length es ∷ addressed es ∷ drop 4 out =
      (rw d.1 at b.fills) ∙ four-put out (length (build es).root) (length (build es).leaves) (length es) (addressed es) (leb-true _ _ k.0) in
      record {
        answer = rw (k.1, o);
        in_root = rw k.1 (rw d.1 at b.in_root);
        in_leaves = rw k.1 (rw d.1 at b.in_leaves);
      }

-- ---- `pmt_publish`, done

module _ (g : Given) (position budget : ℕ) (dest dest' out out' : List ℕ) where
  abbrev publishing-is : Out ℕ
  publishing-is =
      publishing (settings_in_lem g.settings g.degrees) (length g.root) (length g.metadata) (length g.tiles) (length g.leaves) (length dest) position budget

  c_call : Publishes g position budget 0 dest dest' out out' → Call (parts_given g) position budget dest (Ok (get_or out' 0 0)) dest'
  unfolding publishing_given
  c_call c =
      let d = done _ (of-given g.settings g.degrees g.counts out g.root g.metadata g.tiles g.leaves dest position budget) c.says in
      let q = d.0 in
      let k₁ = need-ok (leb 5 (length g.settings)) 15 _ q d.1 in
      let k₂ = need-ok (leb 6 (length g.degrees)) 15 _ q k₁.1 in
      let k₃ = need-ok (leb 2 (length g.counts)) 15 _ q k₂.1 in
      let k₄ = need-ok (leb 1 (length out)) 15 _ q k₃.1 in
      let k₅ = need-ok (zooms_fit_lem g.settings) 1 publishing-is q k₄.1 in
      let o : get_or out' 0 0 ≡ q = rw (rw d.1 at c.fills) (one-put out q (leb-true _ _ k₄.0)) in
      record { answer = rw (k₅.1, o); bytes = rw k₅.1 (rw d.1 at c.stored) }

c-row : {g : Given} {p q : ℕ} {d e : List ℕ} → Row g p d q e → Calls (parts_given g) p d q e
c-row none = no_call
c-row {g} {p = p} {d = d} (more {dest' = d'} {out = out} {out' = out'} budget c r) = one_more budget (c_call g p budget d d' out out' c) (c-row r)

-- ---- lookups

abbrev values : Range → List ℕ
values x = x.start ∷ x.size ∷ []

-- with room for what is found, the status and the slots follow from the answer
module _ (a : List ℕ) (t : Tile) (status : ℕ) (out out' : List ℕ) (room : 2 ≤ length out) (e : Answers a t status out out') where
  answers : (x : Out (Option Range)) → asked a t ≡ x → (status ≡ sought x) × (out' ≡ found x values out)
  answers x q = go t e q
    where
      go : (t : Tile) → Answers a t status out out' → asked a t ≡ x → (status ≡ sought x) × (out' ≡ found x values out)
      go (by_id id h) e q = (rw (le-leb 2 (length out) room, q) at e.says, rw (le-leb 2 (length out) room, q) at e.fills)
      go (by_coord z x y hz hx hy) e q = (rw (le-leb 2 (length out) room, q) at e.says, rw (le-leb 2 (length out) room, q) at e.fills)

  told : (p : Publication) (w : Whole p a) → Told p.entries (16384 + length p.metadata) t status out out'
  told p w =
      record {
        found = λ x m c. answers (ok (some _)) (w.found t x m c);
        only_covered = λ z. only z (asked a t) refl;
        otherwise_absent = λ k. answers (ok nothing) (w.otherwise_absent t k);
        never_refused = never (asked a t) refl;
      }
    where
      only : status ≡ 0 → (x : Out (Option Range)) → asked a t ≡ x → (c : Entry) × Memᴰ c p.entries × Covers c (id_of t)
      only z (ok (some r)) q = let h = w.only_covered t r q in (h.0, h.1, h.2)
      only z (ok nothing) q = absurd (omega (arith, (answers (ok nothing) q).0))
      only z (bad n) q = absurd (w.never_refused t n q)

      never : (x : Out (Option Range)) → asked a t ≡ x → (status ≡ 0) ⊎ (status ≡ 255)
      never (ok (some r)) q = inl (answers (ok (some r)) q).0
      never (ok nothing) q = inr (answers (ok nothing) q).0
      never (bad n) q = absurd (w.never_refused t n q)

promised : (p : Publication) (g : Given) (before dest : List ℕ) (position : ℕ) → parts_of p ≡ parts_given g → p.metadata ≡ g.metadata → Kept p before position dest
    → LibraryPromise3 p.entries g before position dest
promised p g before dest position same m k =
    let all-is : total_of (parts_of p) ≡ total_of (parts_given g) = ap total_of same in
    record {
      as_it_was = k.as_it_was;
      bad_magic = λ some few t status out out' room e. answers dest t status out out' room e (bad 2) (k.during some (subst (λ (n : ℕ). position < n) (sym all-is) few) t);
      whole = λ all t status out out' room e. rw m at (told dest t status out out' room e p (k.after (all ∙ sym all-is)));
      in_plan = subst (λ (n : ℕ). position ≤ n) all-is k.in_plan;
    }

-- ---- the theorem

module _
    -- four stores, whose first `count` slots are the entries
    (count : ℕ) (ids runs lengths offsets : List ℕ) (typed : Typed ids runs lengths offsets)
    -- what else is published
    (settings : List ℕ) (degrees : List Float) (metadata tiles : List ℕ)
    -- two buffers and four slots, as they were when `pmt_build` was called and as it left them, done
    (root root' leaves leaves' out out' : List ℕ)
    (built : BuildTold (within 4 out (building count ids runs lengths offsets (length tiles) (length root) (length leaves))) 0 root root' leaves leaves' out out')
    -- a destination, as it was and as a row of calls of `pmt_publish` has left it
    (before dest : List ℕ) (position : ℕ)
    (published : Row (given settings degrees out' root' metadata tiles leaves') 0 before position dest) where
  pub library-promise-3 : LibraryPromise3 (stored count ids runs lengths offsets) (given settings degrees out' root' metadata tiles leaves') before position dest
  library-promise-3 =
      let b = c-built count ids runs lengths offsets (length tiles) root root' leaves leaves' out out' built in
      let s = settings_in_lem settings degrees in
      promised (publication count ids runs lengths offsets typed s metadata tiles root leaves root' leaves' (sizes_told out') (counts_told out'))
      (given settings degrees out' root' metadata tiles leaves') before dest position
      (sym (parts_are count ids runs lengths offsets typed s metadata tiles root leaves root' leaves' (sizes_told out') (counts_told out') b)) refl
      (row_kept count ids runs lengths offsets typed s metadata tiles root leaves root' leaves' (sizes_told out') (counts_told out') b before dest position (c-row published))
