-- The pointers to leaves are a directory that can be written and read back, and its bytes column by column. Assumes nothing.
use Prim.Native.Nat.{ℕ, zero, suc, ◌+◌, ◌-◌, ◌*◌, ◌^◌, ◌≤◌, ◌<◌}
use mathlib.Core.Path.{◌≡◌, refl, ap, ap₂, ◌∙◌}
use mathlib.Core.Bool.{true}
use mathlib.Core.List.{List, [], ◌∷◌, ◌++◌}
use mathlib.Core.Option.{Option, none, some}
use native.Mathlib.Omega.{arith}
use borrow.Author.Tests.{eq-eqb}
use lib.ListN.{length, length-append, length-replicate, replicate}
use Rattle.refusal.specs.Out.{ok}
use Rattle.tile.specs.Answers.{max_id}
use Rattle.varint.specs.Varint.{Width, narrow, put, wide}
use Rattle.varint.proofs.Shortest.{put_one}
use Rattle.directory.specs.Entries.{Entry, Valid, after, max_count}
use Rattle.directory.specs.Columns.{roomy}
use Rattle.directory.specs.Decode.{decode}
use Rattle.directory.specs.Encode.{Fitting, codes, encode, put_all}
use Rattle.directory.proofs.Round.{decode-encode, ids, lens, runs}
use Rattle.writer.specs.Stock.{Stock}
use Rattle.writer.specs.Build.{first_id, leaves_of, pointers}
use Rattle.writer.specs.Cells.{Rising, deltas}
use Rattle.writer.specs.Cuts.{first_ids, leaf_codes, leaf_lengths}
use Rattle.writer.proofs.Chunks.{AllLeaf, joined}
use Rattle.writer.proofs.Codes.{code-le}
use Rattle.writer.proofs.Lengths.{encode-size}
use Rattle.writer.proofs.Parts.{differences-ids, fitting-rises}
use Rattle.writer.proofs.Puts.{bytes_of}
use Rattle.writer.proofs.Stocks.{weaken}

-- a leaf's pointer has the id of the leaf's first entry
pub pointer-first : (at : ℕ) (e : Entry) (es : List Entry) (cs : List (List Entry))
    → ids (pointers at ((e ∷ es) ∷ cs)) ≡ e.id ∷ ids (pointers (at + length (encode (e ∷ es))) cs)
pointer-first at e es cs = refl

pub valid-after : (lo : ℕ) (xs ys : List Entry) → Valid lo (xs ++ ys) → Valid lo ys
valid-after lo [] ys v = v
valid-after lo (x ∷ xs) ys v =
    let low : lo ≤ x.id = v.0.low in weaken (after x) lo ys (omega arith) (valid-after (after x) xs ys v.1)

pub pointers-valid : (lo at : ℕ) (cs : List (List Entry)) → Valid lo (joined cs) → AllLeaf cs → Valid lo (pointers at cs)
pointers-valid lo at [] v a = tt
pointers-valid lo at ([] ∷ cs) v a = absurd (let h : 0 < 0 = a.0.full in omega arith)
pointers-valid lo at ((e ∷ es) ∷ cs) v a =
    let top : e.id ≤ max_id = v.0.top in (
      record { full = (encode-size (e ∷ es)).0; low = v.0.low; top = v.0.top; end = omega arith },
      pointers-valid (e.id + 1) (at + length (encode (e ∷ es))) cs
          (weaken (after e) (e.id + 1) (joined cs) (omega arith) (valid-after (after e) es (joined cs) v.1)) a.1,
    )

-- the leaves, and each of them, are short enough for their places and lengths to be written
pub leaves-size : (cs : List (List Entry)) → AllLeaf cs → length (leaves_of cs) ≤ 40 * length (joined cs)
leaves-size [] a = omega arith
leaves-size (c ∷ cs) a =
    let full : 0 < length c = a.0.full in simp length-append (omega (arith, encode-size c, leaves-size cs a.1))

pub leaf-narrow : (c : List Entry) → Stock c → length (encode c) < 2 ^ 32
leaf-narrow c s = omega (arith, encode-size c, s.accepts.few)

fit : (lo prev at : ℕ) (p : Option ℕ) (cs : List (List Entry)) → prev ≤ lo → Valid lo (pointers at cs) → AllLeaf cs → at + length (leaves_of cs) < 2 ^ 63
    → Fitting prev p (pointers at cs)
fit lo prev at p [] h v a l = tt
fit lo prev at p (c ∷ cs) h v a l =
    let low : lo ≤ first_id c = v.0.low in
    let sum : at + (length (encode c) + length (leaves_of cs)) < 2 ^ 63 = rw length-append at l in (
      record {
        rises = omega arith;
        id64 = omega (arith, v.0.top);
        run32 = omega arith;
        len32 = leaf-narrow c a.0.stock;
        off64 = omega arith;
        code64 = omega (arith, code-le p at);
      },
      fit (first_id c + 1) (first_id c) (at + length (encode c)) (some (at + length (encode c))) cs (omega arith) v.1 a.1 (omega arith),
    )

count : (at : ℕ) (cs : List (List Entry)) → AllLeaf cs → length (pointers at cs) ≤ length (joined cs)
count at [] a = omega arith
count at (c ∷ cs) a =
    let full : 0 < length c = a.0.full in simp length-append (omega (arith, count (at + length (encode c)) cs a.1))

-- pointers to leaves of a stock of entries
module _ (cs : List (List Entry)) (a : AllLeaf cs) (s : Stock (joined cs)) where
  pub pointers-sorted : Valid 0 (pointers 0 cs)
  pointers-sorted = pointers-valid 0 0 cs s.accepts.valid a

  pub pointers-fit : Fitting 0 none (pointers 0 cs)
  pointers-fit = fit 0 0 0 none cs (omega arith) pointers-sorted a (omega (arith, leaves-size cs a, s.accepts.few))

  pub pointers-few : length (pointers 0 cs) ≤ max_count
  pointers-few = omega (arith, count 0 cs a, s.accepts.few)

  pub pointers-read : (room : Option ℕ) (rest : List ℕ) → roomy room (length (pointers 0 cs)) ≡ true
      → decode room (encode (pointers 0 cs) ++ rest) ≡ ok (pointers 0 cs, length (encode (pointers 0 cs)))
  pointers-read room rest r = decode-encode room (pointers 0 cs) rest pointers-few r pointers-fit pointers-sorted

-- ---- the root's columns

pointers-length : (at : ℕ) (cs : List (List Entry)) → length (pointers at cs) ≡ length cs
pointers-length at [] = refl
pointers-length at (c ∷ cs) = ap (λ (n : ℕ). suc n) (pointers-length (at + length (encode c)) cs)

pointer-ids : (at : ℕ) (cs : List (List Entry)) → ids (pointers at cs) ≡ first_ids cs
pointer-ids at [] = refl
pointer-ids at (c ∷ cs) = ap {B = List ℕ} (λ t. first_id c ∷ t) (pointer-ids (at + length (encode c)) cs)

pointer-runs : (at : ℕ) (cs : List (List Entry)) → runs (pointers at cs) ≡ replicate (length cs) 0
pointer-runs at [] = refl
pointer-runs at (c ∷ cs) = ap {B = List ℕ} (λ t. 0 ∷ t) (pointer-runs (at + length (encode c)) cs)

pointer-lengths : (at : ℕ) (cs : List (List Entry)) → lens (pointers at cs) ≡ leaf_lengths cs
pointer-lengths at [] = refl
pointer-lengths at (c ∷ cs) = ap {B = List ℕ} (λ t. length (encode c) ∷ t) (pointer-lengths (at + length (encode c)) cs)

pointer-codes : (at : ℕ) (cs : List (List Entry)) → codes (some at) (pointers at cs) ≡ replicate (length cs) 0
pointer-codes at [] = refl
pointer-codes at (c ∷ cs) = rw (eq-eqb at at refl) (ap {B = List ℕ} (λ t. 0 ∷ t) (pointer-codes (at + length (encode c)) cs))

root-codes : (cs : List (List Entry)) → codes none (pointers 0 cs) ≡ leaf_codes (length cs)
unfolding leaf_codes
root-codes [] = refl
root-codes (c ∷ cs) = ap {B = List ℕ} (λ t. 1 ∷ t) (pointer-codes (0 + length (encode c)) cs)

-- numbers below 128 are their own forms
zeros : (w : Width) (n : ℕ) → put_all w (replicate n 0) ≡ replicate n 0
zeros w zero = refl
zeros w (suc n) = ap₂ {C = List ℕ} (λ x y. x ++ y) (put_one w 0 (omega arith)) (zeros w n)

ones : (n : ℕ) → put_all wide (leaf_codes n) ≡ leaf_codes n
unfolding leaf_codes
ones zero = refl
ones (suc n) = ap₂ {C = List ℕ} (λ x y. x ++ y) (put_one wide 1 (omega arith)) (zeros wide n)

-- how many pointers, their ids, runs, lengths and codes
abbrev pub root_columns : ℕ → List ℕ → List ℕ → List (List ℕ)
root_columns n firsts lengths = put wide n ∷ put_all wide (deltas 0 firsts) ∷ replicate n 0 ∷ put_all narrow lengths ∷ leaf_codes n ∷ []

pub encode-pointers : (cs : List (List Entry)) → encode (pointers 0 cs) ≡ bytes_of (root_columns (length cs) (first_ids cs) (leaf_lengths cs))
unfolding encode
encode-pointers cs =
    rw (
      pointers-length 0 cs,
      differences-ids 0 (pointers 0 cs),
      pointer-ids 0 cs,
      pointer-runs 0 cs,
      zeros narrow (length cs),
      pointer-lengths 0 cs,
      root-codes cs,
      ones (length cs),
    )

module _ (n : ℕ) where
  pub codes-none : n ≡ 0 → leaf_codes n ≡ []
  unfolding leaf_codes
  codes-none h = ap leaf_codes h

  pub codes-some : (n ≡ 0 → ⊥) → leaf_codes n ≡ 1 ∷ replicate (n - 1) 0
  unfolding leaf_codes
  codes-some h = let e : n ≡ suc (n - 1) = omega arith in ap leaf_codes e

pub codes-length : (n : ℕ) → length (leaf_codes n) ≡ n
unfolding leaf_codes
codes-length zero = refl
codes-length (suc n) = ap (λ (m : ℕ). suc m) (length-replicate n 0)

pub firsts-rise : (cs : List (List Entry)) → AllLeaf cs → Stock (joined cs) → Rising 0 (first_ids cs)
firsts-rise cs a s = rw (pointer-ids 0 cs) at (fitting-rises 0 none (pointers 0 cs) (pointers-fit cs a s))

-- ---- the root's size, leaf by leaf: a run and a code take a byte each

pub root_size : ℕ → List (List Entry) → ℕ
root_size prev cs = length (put_all wide (deltas prev (first_ids cs))) + (length (put_all narrow (leaf_lengths cs)) + 2 * length cs)

pub root_none : (prev : ℕ) → root_size prev [] ≡ 0
unfolding root_size
root_none prev = refl

pub root-more : (prev : ℕ) (c : List Entry) (cs : List (List Entry))
    → root_size prev (c ∷ cs) ≡ length (put wide (first_id c - prev)) + length (put narrow (length (encode c))) + 2 + root_size (first_id c) cs
unfolding root_size
root-more prev c cs = simp length-append (omega arith)

pub root-length : (cs : List (List Entry)) → length (encode (pointers 0 cs)) ≡ length (put wide (length cs)) + root_size 0 cs
unfolding root_size
root-length cs = ap length (encode-pointers cs) ∙ simp (length-append, length-replicate, codes-length) (omega arith)
