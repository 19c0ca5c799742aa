-- The numbers of the layout, written out and not as the definitions have them. Assumes nothing.
use Prim.Native.Nat.{ℕ, ◌+◌, ◌<◌}
use mathlib.Core.Path.{◌≡◌, refl}
use native.Mathlib.Omega.{arith}
use borrow.Author.Tests.{ne_eqb}
use Rattle.acceptance.specs.declared.Counts.{Counts}
use Rattle.publisher.specs.Plan.{header_for}
use Rattle.publisher.specs.Publish.{total}
use Rattle.publisher.specs.declared.Settings.{Settings}

-- 16,384 zeros and the header's 127 bytes over them
pub fewest : total 0 0 0 0 ≡ 16384 + 127
fewest = refl

module _ (s : Settings) (c : Counts) (r m d : ℕ) where
  -- where there are no leaves their offset is 0, else they lie behind the data
  pub no-leaves : (header_for s c r m d 0).leaf_offset ≡ 0
  unfolding header_for
  no-leaves = refl

  pub leaves-behind : (l : ℕ) → 0 < l → (header_for s c r m d l).leaf_offset ≡ 16384 + m + d
  unfolding header_for
  leaves-behind l h = rw (ne_eqb l 0 (λ z. omega arith))
