-- Writing a number whose shortest form fits. Assumes nothing.
use Prim.Native.Nat.{ℕ, ◌+◌, ◌≤◌}
use mathlib.Core.Path.{◌≡◌}
use mathlib.Core.List.{List}
use borrow.Author.Tests.{le-leb}
use lib.ListN.{length}
use lib.Seq.{sets}
use Rattle.refusal.specs.Out.{ok}
use Rattle.varint.specs.Varint.{put, wide}
use Rattle.varint.specs.Answers.{writing, written}

module _ (l : List ℕ) (at x : ℕ) where
  pub write-fits : at + length (put wide x) ≤ length l → (writing l at x ≡ ok (at + length (put wide x))) × (written l at x ≡ sets l at (put wide x))
  unfolding writing written
  write-fits h = (rw (le-leb _ _ h), rw (le-leb _ _ h))
