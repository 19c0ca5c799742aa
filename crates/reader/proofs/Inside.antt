-- What the tests of a range and of a root decide. Assumes nothing.
use Prim.Native.Nat.{ℕ, ◌+◌, ◌≤◌}
use mathlib.Core.Path.{◌≡◌}
use mathlib.Core.List.{List}
use native.Mathlib.Omega.{arith}
use lib.ListN.{length}
use borrow.Author.Tests.{eq-eqb, le-leb}
use Rattle.refusal.specs.Out.{ok, bad}
use Rattle.header.specs.Header.{read_header}
use Rattle.header.specs.declared.Header.{Header}
use Rattle.directory.specs.Entries.{Entry}
use Rattle.reader.specs.Ranges.{Range, Sections, opened, opened_in, range_in_lem, sections_of}
use Rattle.std.proofs.lemmas.Bool.Decides.{nat_tests}
use Rattle.refusal.proofs.OutLaws.{bind_ok}

module _ (s : Range) (total : ℕ) (e : Entry) (inside : e.off + e.len ≤ s.size) where
  pub in-range : s.start + (e.off + e.len) ≤ total → range_in_lem s total e ≡ ok (record { start = s.start + e.off; size = e.len })
  unfolding range_in_lem
  in-range h = rw (le-leb (e.off + e.len) s.size inside, le-leb (s.start + (e.off + e.len)) total h)

module _ (h : Header) (total : ℕ) (plain : h.internal_compression ≡ 1) where
  pub root-inside : h.root_offset + h.root_length ≤ total → opened_in h total ≡ ok (sections_of h)
  unfolding opened_in
  root-inside l = rw (eq-eqb h.internal_compression 1 plain, le-leb (h.root_offset + h.root_length) total l)

module _ (a : List ℕ) where
  pub opened-by : (h : Header) → ok h ≡ read_header a → opened_in h (length a) ≡ opened a
  unfolding opened
  opened-by h e = rw (← e)

  pub opened-bad : (n : ℕ) → bad n ≡ read_header a → bad n ≡ opened a
  unfolding opened
  opened-bad n e = rw (← e)

-- a range lies in the archive
pub range_inside : (s : Range) (total : ℕ) (e : Entry) (r : Range) → range_in_lem s total e ≡ ok r → r.start + r.size ≤ total
unfolding range_in_lem
range_inside s total e r p = grind (arith, nat_tests)

-- and so does the root
pub root_in : (a : List ℕ) (s : Sections) → opened a ≡ ok s → s.root.start + s.root.size ≤ length a
unfolding opened opened_in
root_in a s p =
    let h = bind_ok (read_header a) (λ h. opened_in h (length a)) s p in
    grind (arith, nat_tests)
