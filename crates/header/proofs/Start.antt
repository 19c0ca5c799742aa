-- The fields of a header lie in its first 127 bytes. Assumes nothing.
use mathlib.Core.List.{List}
use mathlib.Core.Path.{◌≡◌}
use Prim.Native.Nat.{ℕ}
use native.Mathlib.Omega.{arith}
use lib.ListN.{take}
use Rattle.std.proofs.lemmas.List.{get_or-take}
use Rattle.header.specs.Bytes.{number_at}
use Rattle.header.specs.Header.{degrees_at_lem, fields_of}

pub fields_start : (s : List ℕ) → fields_of (take 127 s) ≡ fields_of s
unfolding number_at degrees_at_lem fields_of
fields_start s = simp (arith, get_or-take)
