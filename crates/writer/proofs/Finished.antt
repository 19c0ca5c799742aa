-- The outcomes of building. Assumes nothing.
use Prim.Native.Nat.{ℕ, ◌-◌, ◌≤◌, ◌<◌, ◌^◌}
use mathlib.Core.Path.{◌≡◌, refl, ap, ap₂, sym, ◌∙◌}
use mathlib.Core.List.{List}
use native.Mathlib.Omega.{arith}
use borrow.Author.Tests.{le-leb, leb-true, lt-leb}
use lib.Dec.{leb}
use lib.ListN.{length}
use lib.Seq.{sets}
use Rattle.std.specs.Prelude.{Ok, Err}
use Rattle.refusal.specs.Out.{Out, ok, bad, afterwards, need}
use Rattle.refusal.specs.Number.{number_of}
use Rattle.refusal.specs.declared.Refusal.{Refusal}
use Rattle.refusal.proofs.OutLaws.{bind_ok, need-ok, ok-is}
use Rattle.directory.specs.Entries.{Entry}
use Rattle.directory.specs.Columns.{entries}
use Rattle.acceptance.specs.Accept.{Accepts, accepting}
use Rattle.acceptance.specs.Answers.{counts_in_lem, counts_of}
use Rattle.acceptance.specs.declared.Counts.{Counts}
use Rattle.acceptance.proofs.Accepts.{accepting-sound}
use Rattle.writer.specs.Answers.{BuiltFrom, building, fitted, laid, sizes_in, sizes_of}
use Rattle.writer.specs.Build.{build}
use Rattle.writer.specs.Cells.{part}
use Rattle.writer.specs.Cuts.{Planned, sizes_planned}
use Rattle.writer.specs.declared.Sizes.{Sizes}
use Rattle.writer.specs.declared.building.Layout.{Layout}
use Rattle.writer.proofs.Parts.{entries-length, stored-part}
use Rattle.writer.proofs.Plans.{planned-sizes}
use Rattle.writer.proofs.Stocks.{any-size}
use Rattle.writer.proofs.Written.{landing, no_value}

-- ---- entries that were accepted, into two buffers

module _ (es : List Entry) (root leaves : List ℕ) where
  abbrev fit : Out (List Entry)
  fit = fitted es (length root) (length leaves)

  -- what is answered, and what the buffers hold then
  abbrev pub Finished : Out Sizes → List ℕ → List ℕ → Type 0
  Finished x root' leaves' =
      (x ≡ sizes_in fit)
      × (root' ≡ afterwards fit root (λ es. laid (build es).root root))
      × (leaves' ≡ afterwards fit leaves (λ es. laid (build es).leaves leaves))

  module _ (s : Sizes) (z : s ≡ sizes_of (build es)) where
    pub root-short : length root < s.root → Finished (bad 15) root leaves
    unfolding fitted
    root-short h = rw (lt-leb (length (build es).root) (length root) (omega (arith, ap (λ (s : Sizes). s.root) z))) (refl, refl, refl)

    module _ (h : s.root ≤ length root) where
      pub leaves-short : length leaves < s.leaves → Finished (bad 15) root leaves
      unfolding fitted
      leaves-short k =
          rw (
            le-leb (length (build es).root) (length root) (omega (arith, ap (λ (s : Sizes). s.root) z)),
            lt-leb (length (build es).leaves) (length leaves) (omega (arith, ap (λ (s : Sizes). s.leaves) z)),
          )
          (refl, refl, refl)

      pub both-laid : s.leaves ≤ length leaves → (root' leaves' : List ℕ) → root' ≡ sets root 0 (build es).root → leaves' ≡ sets leaves 0 (build es).leaves
          → Finished (ok s) root' leaves'
      unfolding fitted
      both-laid k root' leaves' p q =
          let a : length (build es).root ≤ length root = omega (arith, ap (λ (s : Sizes). s.root) z) in
          let b : length (build es).leaves ≤ length leaves = omega (arith, ap (λ (s : Sizes). s.leaves) z) in
          rw (le-leb (length (build es).root) (length root) a, le-leb (length (build es).leaves) (length leaves) b)
          (ap ok z, p ∙ landing (build es).root root a, q ∙ landing (build es).leaves leaves b)

  pub fitted-sound : (fs : List Entry) → fit ≡ ok fs → (length (build es).root ≤ length root) × (length (build es).leaves ≤ length leaves) × (es ≡ fs)
  unfolding fitted
  fitted-sound fs p =
      let a = need-ok (leb (length (build es).root) (length root)) 15 (need (leb (length (build es).leaves) (length leaves)) 15 (ok es)) fs p in
      let b = need-ok (leb (length (build es).leaves) (length leaves)) 15 (ok es) fs a.1 in
      (leb-true _ _ a.0, leb-true _ _ b.0, ok-is b.1)

  module _ (root' leaves' : List ℕ) where
    -- the counts that were handed on are those of the entries
    recount : (s : Sizes) → Finished (ok s) root' leaves' → BuiltFrom fit counts_of (Ok (s, counts_of es)) root leaves root' leaves'
    recount s f =
        let k = bind_ok fit (λ es. ok (sizes_of (build es))) s (sym f.0) in
        record {
          answer = rw k.1 (ap₂ {C = Out (Sizes × Counts)} (λ s c. ok (s, c)) (sym (ok-is k.2)) (ap counts_of (fitted-sound k.0 k.1).2));
          in_root = f.1;
          in_leaves = f.2;
        }

    refused : (r : Refusal) → Finished (bad (number_of r)) root' leaves' → BuiltFrom fit counts_of (Err r) root leaves root' leaves'
    refused r f =
        let e = no_value fit (λ es. sizes_of (build es)) (number_of r) f.0 in
        record { answer = rw e; in_root = f.1; in_leaves = f.2 }

-- ---- from the stores

module _ (n : ℕ) (a b c d : List ℕ) (size : ℕ) where
  module _ (k : ℕ) (h : bad k ≡ counts_in_lem (accepting n a b c d size)) where
    none-taken : accepting n a b c d size ≡ bad k
    none-taken = no_value (accepting n a b c d size) counts_of k h

    pub building-bad : (r : Refusal) → k ≡ number_of r → (root leaves : List ℕ)
        → BuiltFrom (building n a b c d size (length root) (length leaves)) counts_of (Err r) root leaves root leaves
    unfolding building
    building-bad r e root leaves = rw (none-taken, e) (record { answer = refl; in_root = refl; in_leaves = refl })

  module _ (counts : Counts) (h : ok counts ≡ counts_in_lem (accepting n a b c d size)) where
    accepted : (accepting n a b c d size ≡ ok (part 0 n (entries a b c d))) × (counts_of (part 0 n (entries a b c d)) ≡ counts) × (n ≤ length (entries a b c d))
    accepted =
        let k = bind_ok (accepting n a b c d size) (λ es. ok (counts_of es)) counts (sym h) in
        let s = accepting-sound n a b c d size k.0 k.1 in
        let e : k.0 ≡ part 0 n (entries a b c d) = sym s.1 ∙ stored-part n a b c d in
        (k.1 ∙ ap ok e, sym (ap counts_of e) ∙ ok-is k.2, rw entries-length s.0)

    pub accepted-ready : size < 2 ^ 64 → (n ≤ length (entries a b c d)) × Accepts (2 ^ 64 - 1) (part 0 n (entries a b c d))
    accepted-ready l = (accepted.2, any-size size (part 0 n (entries a b c d)) l (accepting-sound n a b c d size (part 0 n (entries a b c d)) accepted.0).2)

    pub sizes-are : (p : Layout) → Planned n (entries a b c d) p → ok (sizes_planned p) ≡ sizes_in (accepting n a b c d size)
    sizes-are p q = rw accepted.0 (ap ok (planned-sizes (entries a b c d) n accepted.2 p q))

    module _ (root leaves root' leaves' : List ℕ) where
      pub building-refused : (r : Refusal) → Finished (part 0 n (entries a b c d)) root leaves (bad (number_of r)) root' leaves'
          → BuiltFrom (building n a b c d size (length root) (length leaves)) counts_of (Err r) root leaves root' leaves'
      unfolding building
      building-refused r f = rw accepted.0 (refused (part 0 n (entries a b c d)) root leaves root' leaves' r f)

      pub building-done : (s : Sizes) → Finished (part 0 n (entries a b c d)) root leaves (ok s) root' leaves'
          → BuiltFrom (building n a b c d size (length root) (length leaves)) counts_of (Ok (s, counts)) root leaves root' leaves'
      unfolding building
      building-done s f = rw (← accepted.1, accepted.0) (recount (part 0 n (entries a b c d)) root leaves root' leaves' s f)
