-- Lookup in an archive that holds what the builder made answers as search in the entries does. Assumes nothing.
use Prim.Native.Nat.{ℕ, ◌+◌, ◌≤◌}
use mathlib.Core.Path.{◌≡◌, ap, sym, ◌∙◌}
use mathlib.Core.List.{List, [], ◌∷◌, Memᴰ}
use mathlib.Core.Option.{Option, none, some}
use native.Mathlib.Omega.{arith}
use borrow.Author.Tests.{le-leb}
use lib.ListN.{drop, length, take}
use Rattle.refusal.specs.Out.{Out, ok, bad, ◌>>=◌}
use Rattle.tile.specs.Answers.{max_id}
use Rattle.directory.specs.Entries.{Entry}
use Rattle.directory.specs.Decode.{decode}
use Rattle.directory.specs.Search.{All, Hit, IsTile, absent, find_in, leaf, search, tile}
use Rattle.search.proofs.Covers.{Answered, all-at, answered, none-covers, one_covers}
use Rattle.reader.specs.Ranges.{Range, Sections, opened, part}
use Rattle.reader.specs.Lookup.{descend, located, lookup}
use Rattle.reader.proofs.Descents.{on-absent, on-leaf, on-tile}
use Rattle.reader.proofs.Lookups.{from-root}
use Rattle.acceptance.specs.Accept.{Taken}
use Rattle.writer.specs.Stock.{Stock}
use Rattle.writer.specs.Build.{build}
use Rattle.writer.proofs.TwoLevels.{Finds, built-finds, in_leaf, in-root, no-leaf}
use Rattle.archive.proofs.Placed.{Placed, holds-part, holds-range, holds-whole}

-- the answer that goes with what a search says, where no range is at fault; entries of tiles have no pointer
abbrev pub answer_of : Range → Hit → Out (Option Range)
answer_of r absent = ok none
answer_of r (tile e) = ok (some (record { start = r.start + e.off; size = e.len }))
answer_of r (leaf e) = bad 18

pub all-tiles : (size : ℕ) (es : List Entry) → All (Taken size) es → All IsTile es
all-tiles size [] a = tt
all-tiles size (e ∷ es) a = (a.0.covers, all-tiles size es a.1)

pub taken_in : (size : ℕ) (es : List Entry) (e : Entry) → All (Taken size) es → Memᴰ e es → e.off + e.len ≤ size
taken_in size es e a m = (all-at {P = Taken size} es e (λ x y p k. rw p k) a m).in_data

module _ (t : ℕ) (valid : t ≤ max_id) where
  searched : (bs : List ℕ) (es : List Entry) (u : ℕ) → decode none bs ≡ ok (es, u) → ok (search es t) ≡ find_in bs t
  unfolding find_in
  searched bs es u d = rw (le-leb t max_id valid, d)

  module _ (s : Sections) (a tiles : List ℕ) (es : List Entry) (pl : Placed s a (build es).root tiles (build es).leaves) (tk : All (Taken (length tiles)) es) where
    -- a directory of the entries
    ends : (n : ℕ) (bs : List ℕ) → ok (search es t) ≡ find_in bs t → descend n s a t bs ≡ answer_of s.tiles (search es t)
    ends n bs f = go (answered es t (all-tiles (length tiles) es tk))
      where
        go : Answered es t → descend n s a t bs ≡ answer_of s.tiles (search es t)
        go (none-covers p) = sym (on-absent s a t bs n (rw p at f)) ∙ ap (answer_of s.tiles) (sym p)
        go (one_covers e p m c) =
            sym (on-tile s a t bs n e (rw p at f))
            ∙ ap located (holds-range a s.tiles tiles pl.tiles_here e (taken_in (length tiles) es e tk m))
            ∙ ap (answer_of s.tiles) (sym p)

    -- the root, and the leaf that it points to
    descends : Finds es (build es) t → descend 3 s a t (build es).root ≡ answer_of s.tiles (search es t)
    descends (in-root d) = ends 3 (build es).root (searched (build es).root es (length (build es).root) d)
    descends (no-leaf ps d q w) =
        sym (on-absent s a t (build es).root 3 (rw q at (searched (build es).root ps (length (build es).root) d))) ∙ ap (answer_of s.tiles) (sym w)
    descends (in_leaf ps d p q l c b w) =
        let f : ok (leaf p) ≡ find_in (build es).root t = rw q at (searched (build es).root ps (length (build es).root) d) in
        let r : Range = record { start = s.leaves.start + p.off; size = p.len } in
        let bytes : part a r ≡ take p.len (drop p.off (build es).leaves) = holds-part a s.leaves (build es).leaves pl.leaves_here p.off p.len l in
        let g : ok (search es t) ≡ find_in (part a r) t = rw (bytes, ← w) (searched (take p.len (drop p.off (build es).leaves)) c p.len b) in
        sym (on-leaf s a t (build es).root 3 p (omega arith) f)
        ∙ ap (λ (x : Out Range). x >>= λ y. descend 2 s a t (part a y)) (holds-range a s.leaves (build es).leaves pl.leaves_here p l)
        ∙ ends 2 (part a r) g

    pub lookup-built : Stock es → opened a ≡ ok s → lookup a t ≡ answer_of s.tiles (search es t)
    lookup-built st o =
        sym (from-root a t valid s (sym o))
        ∙ ap (descend 3 s a t) (holds-whole a s.root (build es).root pl.root_here)
        ∙ descends (built-finds es st t)
