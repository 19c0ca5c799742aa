-- How deep a lookup goes: through a root and three leaves, and no further. Assumes nothing.
use Prim.Native.Nat.{ℕ, suc, ◌-◌, ◌≤◌}
use mathlib.Core.Path.{◌≡◌, sym, ◌∙◌}
use mathlib.Core.List.{List}
use native.Mathlib.Omega.{arith}
use lib.ListN.{length}
use Rattle.refusal.specs.Out.{ok, bad}
use Rattle.tile.specs.Answers.{max_id}
use Rattle.directory.specs.Entries.{Entry}
use Rattle.directory.specs.Search.{find_in, leaf, tile}
use Rattle.reader.specs.Ranges.{Range, Sections, opened, part, range_in_lem}
use Rattle.reader.specs.Lookup.{descend, located, lookup}
use Rattle.reader.proofs.Descents.{on-last, on-leaf, on-tile}
use Rattle.reader.proofs.Lookups.{from-root}

module _ (a : List ℕ) (t : ℕ) (valid : t ≤ max_id) (s : Sections) (o : opened a ≡ ok s) where
  -- a directory leads to the leaf at a range
  pub record Leads (from to : Range) : Type 0 where
    pub pointer : Entry
    pub points : ok (leaf pointer) ≡ find_in (part a from) t
    pub lies : range_in_lem s.leaves (length a) pointer ≡ ok to

  one_down : (n : ℕ) (from to : Range) → Leads from to → descend (suc n) s a t (part a from) ≡ descend n s a t (part a to)
  one_down n from to l =
      let one : suc n - 1 ≡ n = omega arith in
      sym (rw (one, l.lies) at (on-leaf s a t (part a from) (suc n) l.pointer (omega arith) l.points))

  module _ (first second third : Range) (p : Leads s.root first) (q : Leads first second) (r : Leads second third) where
    three_down : lookup a t ≡ descend 0 s a t (part a third)
    three_down = sym (from-root a t valid s (sym o)) ∙ one_down 2 s.root first p ∙ one_down 1 first second q ∙ one_down 0 second third r

    pub found-in-third : (e : Entry) → ok (tile e) ≡ find_in (part a third) t → lookup a t ≡ located (range_in_lem s.tiles (length a) e)
    found-in-third e f = three_down ∙ sym (on-tile s a t (part a third) 0 e f)

    pub fourth-refused : (e : Entry) → ok (leaf e) ≡ find_in (part a third) t → lookup a t ≡ bad 18
    fourth-refused e f = three_down ∙ sym (on-last s a t (part a third) 0 e (omega arith) f)
