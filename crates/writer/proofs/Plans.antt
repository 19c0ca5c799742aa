-- What is chosen and planned for a range of entries. Assumes nothing.
use Prim.Native.Nat.{ℕ, ◌+◌, ◌/◌, ◌≤◌, ◌<◌}
use mathlib.Core.Path.{◌≡◌, refl, ap, ap₂, sym, ◌∙◌}
use mathlib.Core.List.{List}
use native.Mathlib.Omega.{arith}
use lib.ListN.{length}
use Rattle.directory.specs.Entries.{Entry}
use Rattle.directory.specs.Encode.{encode}
use Rattle.writer.specs.Answers.{sizes_of}
use Rattle.writer.specs.Build.{build, leaf_size, leaves_of, pointers, root_room, with_leaves}
use Rattle.writer.specs.Cells.{part}
use Rattle.writer.specs.Cuts.{Measured, Planned, cuts, first_size_lem, sizes_planned}
use Rattle.writer.specs.declared.Sizes.{Sizes}
use Rattle.writer.specs.declared.building.Layout.{Layout}
use Rattle.writer.specs.declared.building.Layout.TheVariants as layout
use Rattle.writer.specs.declared.leaves.Split.{Split}
use Rattle.varint.proofs.Cases.{by-lt}
use Rattle.writer.proofs.Cut.{cuts-all}
use Rattle.writer.proofs.Growth.{build-flat, build-large, build-many, grown-here, grown-on, leaf-some, leaf_of, root_length_lem}
use Rattle.writer.proofs.Parts.{part_length}

module _ (es : List Entry) (n : ℕ) (m : n ≤ length es) where
  count-is : length (part 0 n es) ≡ n
  count-is = part_length es 0 n m ∙ omega arith

  module _ (k root : ℕ) (e : root ≡ length (encode (pointers 0 (cuts k 0 n es)))) where
    root_is : root ≡ root_length_lem k (part 0 n es)
    root_is = e ∙ ap (λ cs. length (encode (pointers 0 cs))) (cuts-all es k n m)

    pub chosen : root ≤ root_room → leaf_size n k (part 0 n es) ≡ k
    chosen h = grown-here n k (part 0 n es) (omega (arith, root_is))

    pub grows : 5 ≤ k → root_room < root → (k < n) × (leaf_size n k (part 0 n es) ≡ leaf_size n (k + k / 5) (part 0 n es))
    grows h l = rw count-is at (grown-on k (part 0 n es) h (omega (arith, root_is)))

  module _ (p : Split) (q : Measured n es (leaf_size n (first_size_lem n) (part 0 n es)) p) where
    plan-leaves : build (part 0 n es) ≡ with_leaves (leaf_of (part 0 n es)) (part 0 n es) → Planned n es (layout.Leaves p)
    plan-leaves b =
        let e : p.leaf ≡ leaf_of (part 0 n es) = q.leaf ∙ sym (ap (λ (c : ℕ). leaf_size c (first_size_lem c) (part 0 n es)) count-is) in
        let some = leaf-some (part 0 n es) in (omega arith, rw (sym q.leaf) at q, rw e b)

    pub plan-split : (n < 16384 → root_room < length (encode (part 0 n es))) → Planned n es (layout.Leaves p)
    plan-split h =
        by-lt n 16384
        (λ l. plan-leaves (build-large (part 0 n es) (rw count-is l) (h l)))
        (λ l. plan-leaves (build-many (part 0 n es) (rw count-is l)))

  pub plan-flat : n < 16384 → (r : ℕ) → r ≡ length (encode (part 0 n es)) → r ≤ root_room → Planned n es (layout.Root r)
  plan-flat h r e l = (build-flat (part 0 n es) (rw count-is h) (omega arith), e)

  -- what is planned is as large as what is built
  pub planned-sizes : (p : Layout) → Planned n es p → sizes_planned p ≡ sizes_of (build (part 0 n es))
  planned-sizes (layout.Root r) q = ap {B = Sizes} (λ x. record { root = x; leaves = 0 }) q.1 ∙ sym (ap sizes_of q.0)
  planned-sizes (layout.Leaves p) q =
      let cs = cuts-all es p.leaf n m in
      ap₂ {C = Sizes} (λ x y. record { root = x; leaves = y }) (q.1.root ∙ ap (λ c. length (encode (pointers 0 c))) cs) (q.1.leaves ∙ ap (λ c. length (leaves_of c)) cs)
      ∙ sym (ap sizes_of q.2)

  -- leaves as they are cut
  pub split-is : (k : ℕ) → build (part 0 n es) ≡ with_leaves k (part 0 n es)
      → build (part 0 n es) ≡ record { root = encode (pointers 0 (cuts k 0 n es)); leaves = leaves_of (cuts k 0 n es) }
  split-is k b = b ∙ rw (cuts-all es k n m) refl
