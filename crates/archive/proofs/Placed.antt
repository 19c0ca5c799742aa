-- Bytes that stand at a place of an archive, and what a range in them gives. Assumes nothing.
use Prim.Native.Nat.{ℕ, ◌+◌, ◌≤◌}
use mathlib.Core.Path.{◌≡◌, refl}
use mathlib.Core.List.{List, ◌++◌}
use native.Mathlib.Omega.{arith}
use lib.ListN.{drop, length, length-append, length-drop, take}
use lib.Seq.{drop-append-add, drop-append-le, drop_at, take-append-le, take_at}
use Rattle.refusal.specs.Out.{ok}
use Rattle.directory.specs.Entries.{Entry}
use Rattle.reader.specs.Ranges.{Range, Sections, part, range_in_lem}
use Rattle.reader.proofs.Inside.{in-range}

-- x is what the range r of a holds
pub record Holds (a : List ℕ) (r : Range) (x : List ℕ) : Type 0 where
  pub pre : List ℕ
  pub post : List ℕ
  pub is : a ≡ pre ++ (x ++ post)
  pub place : length pre ≡ r.start
  pub size : r.size ≡ length x

module _ (a : List ℕ) (r : Range) (x : List ℕ) (h : Holds a r x) where
  pub holds-in : r.start + length x ≤ length a
  holds-in = let p : length h.pre ≡ r.start = h.place in rw h.is (simp length-append (omega arith))

  pub holds-whole : part a r ≡ x
  holds-whole = rw (h.is, h.size, drop_at h.pre (x ++ h.post) r.start h.place) (take_at x h.post (length x) refl)

  pub holds-part : (o n : ℕ) → o + n ≤ length x → part a (record { start = r.start + o; size = n }) ≡ take n (drop o x)
  holds-part o n l =
      let l' : n ≤ length (drop o x) = rw length-drop (omega arith) in
      rw (h.is, ← h.place, drop-append-add h.pre (x ++ h.post) o, drop-append-le o x h.post (omega arith), take-append-le n (drop o x) h.post l')

  -- an entry's range there is good
  pub holds-range : (e : Entry) → e.off + e.len ≤ length x → range_in_lem r (length a) e ≡ ok (record { start = r.start + e.off; size = e.len })
  holds-range e l = in-range r (length a) e (rw h.size l) (omega (arith, holds-in))

-- the sections of an archive stand where its header says
pub record Placed (s : Sections) (a root tiles leaves : List ℕ) : Type 0 where
  pub root_here : Holds a s.root root
  pub tiles_here : Holds a s.tiles tiles
  pub leaves_here : Holds a s.leaves leaves
