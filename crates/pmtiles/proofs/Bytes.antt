-- The first slots of a list, and the bytes that stand for the numbers in them. Assumes nothing.
use Rattle.std.proofs.Common.{◌≡◌, ℕ, ◌+◌, ◌≤◌, ◌<◌, true, List, get_or, leb, take, arith}
use Rattle.std.proofs.lemmas.Bool.Decides.{nat_tests}
use Rattle.std.proofs.lemmas.List.{get_or-take}
use borrow.Author.Tests.{leb-true}
use Rattle.pmtiles.specs.Headers.{byte_of}

pub first_slots : {A : Type 0} (n : ℕ) (l : List A) (i : ℕ) (d : A) → leb (i + 1) n ≡ true → get_or (take n l) i d ≡ get_or l i d
first_slots n l i d h = get_or-take n l i d (omega (arith, leb-true _ _ h))

pub byte_fits : (n : ℕ) → n ≤ 255 → byte_of n ≡ n
unfolding byte_of
byte_fits n h = omega arith

-- a number above 255 is as far above k as its byte is
pub byte_test : (n k : ℕ) → k < 255 → leb (byte_of n) k ≡ leb n k
unfolding byte_of
byte_test n k h = grind (arith, nat_tests)
