-- Search in the pointers, and then in the leaf pointed to, is search in all entries; and both are read from what is built. Assumes nothing.
use Prim.Native.Nat.{ℕ, ◌+◌, ◌≤◌, ◌<◌}
use mathlib.Core.Path.{◌≡◌, refl, ap, sym, ◌∙◌}
use mathlib.Core.Bool.{Bool, true, false, cond}
use mathlib.Core.List.{List, [], ◌∷◌, ◌++◌, append_assoc, append-nil}
use mathlib.Core.Option.{Option, none, some}
use native.Mathlib.Omega.{arith}
use borrow.Author.Tests.{le-leb, leb-false, leb-true}
use lib.Dec.{leb}
use lib.ListN.{drop, length, length-append, length-drop, length-take, take}
use lib.Seq.{drop-append_seam, take-append_seam}
use Rattle.refusal.specs.Out.{ok}
use Rattle.directory.specs.Entries.{Entry, Valid, after, entry}
use Rattle.directory.specs.Decode.{decode}
use Rattle.directory.specs.Encode.{encode}
use Rattle.directory.specs.Search.{absent, last_at, later, leaf, search}
use Rattle.search.proofs.Covers.{none_below}
use Rattle.writer.specs.Stock.{Stock}
use Rattle.writer.specs.Build.{Directories, build, chunks, leaves_of, pointers, with_leaves}
use Rattle.writer.proofs.Chunks.{AllLeaf, Leaf, all-leaf, joined, joined-chunks}
use Rattle.writer.proofs.Growth.{Shape, flat, leaf-some, leaf_of, leafy, shape}
use Rattle.writer.proofs.Pointers.{pointers-read, valid-after}
use Rattle.writer.proofs.Stocks.{stock-read}

later-assoc : (a b c : Option Entry) → later (later a b) c ≡ later a (later b c)
later-assoc none b c = refl
later-assoc (some x) b c = refl

later-none : (a : Option Entry) → later a none ≡ a
later-none none = refl
later-none (some x) = refl

last-append : (xs ys : List Entry) (t : ℕ) → last_at (xs ++ ys) t ≡ later (last_at ys t) (last_at xs t)
last-append [] ys t = sym (later-none (last_at ys t))
last-append (x ∷ xs) ys t = rw (last-append xs ys t) (later-assoc (last_at ys t) (last_at xs t) (cond (leb x.id t) (some x) none))

-- something is last if the first id is not above the target
last_some : (e : Entry) (es : List Entry) (t : ℕ) → e.id ≤ t → (y : Entry) × (last_at (e ∷ es) t ≡ some y)
last_some e es t h = go (last_at es t) refl
  where
    go : (o : Option Entry) → last_at es t ≡ o → (y : Entry) × (last_at (e ∷ es) t ≡ some y)
    go none q = (e, rw (q, le-leb e.id t h))
    go (some y) q = (y, rw q)

-- a target lies below all entries, or a pointer leads to the leaf that has the last entry at most the target
data Level (root all : List Entry) (leaves : List ℕ) (t : ℕ) : Type 0 where
  below : last_at root t ≡ none → last_at all t ≡ none → Level root all leaves t
  within : (p : Entry) (c : List Entry) (y : Entry) → last_at root t ≡ some p → p.run ≡ 0 → p.off + p.len ≤ length leaves
      → take p.len (drop p.off leaves) ≡ encode c → Leaf c → last_at c t ≡ some y → last_at all t ≡ some y → Level root all leaves t

-- the first id may itself be the least
raised : (lo : ℕ) (e : Entry) (es : List Entry) → Valid lo (e ∷ es) → Valid e.id (e ∷ es)
raised lo e es v = (record { full = v.0.full; low = omega arith; top = v.0.top; end = v.0.end }, v.1)

module _ (t : ℕ) (e : Entry) (es : List Entry) (cs : List (List Entry)) (pre : List ℕ) where
  abbrev All : Type 0
  All = Level (pointers (length pre) ((e ∷ es) ∷ cs)) (joined ((e ∷ es) ∷ cs)) (pre ++ leaves_of ((e ∷ es) ∷ cs)) t

  -- what a leaf more in front does
  in-front : (lo : ℕ) → Valid lo (joined ((e ∷ es) ∷ cs)) → Leaf (e ∷ es)
      → Level (pointers (length pre + length (encode (e ∷ es))) cs) (joined cs) (pre ++ leaves_of ((e ∷ es) ∷ cs)) t → All
  in-front lo v l (within p c y r z f b lc q w) = within p c y (rw r) z f b lc q (last-append (e ∷ es) (joined cs) t ∙ (rw w))
  in-front lo v l (below r w) = go (leb e.id t) refl
    where
      here : (y : Entry) × (last_at (e ∷ es) t ≡ some y) → leb e.id t ≡ true → All
      here h q =
          within (entry e.id 0 (length (encode (e ∷ es))) (length pre)) (e ∷ es) h.0 (rw (r, q)) refl (simp length-append (omega arith))
          (rw (drop-append_seam pre (encode (e ∷ es) ++ leaves_of cs), take-append_seam (encode (e ∷ es)) (leaves_of cs)))
          l h.1 (last-append (e ∷ es) (joined cs) t ∙ (rw w h.1))

      go : (b : Bool) → leb e.id t ≡ b → All
      go true q = here (last_some e es t (leb-true _ _ q)) q
      go false q = below (rw (r, q)) (none_below e.id t (e ∷ (es ++ joined cs)) (raised lo e (es ++ joined cs) v) (leb-false _ _ q))

level : (lo t : ℕ) (cs : List (List Entry)) (pre : List ℕ) → Valid lo (joined cs) → AllLeaf cs → Level (pointers (length pre) cs) (joined cs) (pre ++ leaves_of cs) t
level lo t [] pre v a = below refl refl
level lo t ([] ∷ cs) pre v a = absurd (let h : 0 < 0 = a.0.full in omega arith)
level lo t ((e ∷ es) ∷ cs) pre v a =
    in-front t e es cs pre lo v a.0
    (rw (append_assoc, length-append) at (level (after e) t cs (pre ++ encode (e ∷ es)) (valid-after (after e) es (joined cs) v.1) a.1))

-- ---- what is built

-- reading what was built, and searching it, finds what searching the entries finds
pub data Finds (es : List Entry) (d : Directories) (t : ℕ) : Type 0 where
  in-root : decode none d.root ≡ ok (es, length d.root) → Finds es d t
  no-leaf : (ps : List Entry) → decode none d.root ≡ ok (ps, length d.root) → search ps t ≡ absent → search es t ≡ absent → Finds es d t
  in_leaf : (ps : List Entry) → decode none d.root ≡ ok (ps, length d.root) → (p : Entry) → search ps t ≡ leaf p → p.off + p.len ≤ length d.leaves
      → (c : List Entry) → decode none (take p.len (drop p.off d.leaves)) ≡ ok (c, p.len) → search c t ≡ search es t → Finds es d t

read_all : (es : List Entry) → Stock es → decode none (encode es) ≡ ok (es, length (encode es))
read_all es s = rw append-nil at (stock-read es s none [] refl)

-- leaves of any size, with their pointers
module _ (es : List Entry) (s : Stock es) (k t : ℕ) (h : 0 < k) where
  again : joined (chunks (length es) k es) ≡ es
  again = joined-chunks (length es) k es h (omega arith)

  leafs : AllLeaf (chunks (length es) k es)
  leafs = all-leaf (length es) k es h s

  read-root : decode none (with_leaves k es).root ≡ ok (pointers 0 (chunks (length es) k es), length (with_leaves k es).root)
  read-root = rw append-nil at (pointers-read (chunks (length es) k es) leafs (rw again s) none [] refl)

  leaves-find : Finds es (with_leaves k es) t
  unfolding search
  leaves-find = go (level 0 t (chunks (length es) k es) [] (rw again s.accepts.valid) leafs)
    where
      go : Level (pointers 0 (chunks (length es) k es)) (joined (chunks (length es) k es)) (with_leaves k es).leaves t → Finds es (with_leaves k es) t
      go (below r w) = no-leaf _ read-root (rw r) (rw (rw again at w))
      go (within p c y r z f b l q w) =
          let n : length (encode c) ≡ p.len = sym (ap length b) ∙ length-take p.len (drop p.off (with_leaves k es).leaves) ∙ rw length-drop (omega arith) in
          in_leaf _ read-root p (rw (r, z)) f c (rw (b, ← n) (read_all c l.stock)) (rw (q, rw again at w))

pub built-finds : (es : List Entry) → Stock es → (t : ℕ) → Finds es (build es) t
built-finds es s t = go (shape es)
  where
    go : Shape es → Finds es (build es) t
    go (flat h e) = rw e (in-root (read_all es s))
    go (leafy e) = rw e (leaves-find es s (leaf_of es) t (omega (arith, leaf-some es)))
