-- No test of the writing refuses known codes and room for 127 bytes. Assumes nothing.
use mathlib.Core.Path.{◌≡◌}
use Prim.Native.Nat.{ℕ, ◌≤◌}
use borrow.Author.Tests.{le-leb}
use Rattle.refusal.specs.Out.{ok}
use Rattle.header.specs.Header.{write_header}
use Rattle.header.specs.declared.Header.{Header}

pub passing : (h : Header) (n : ℕ) → h.internal_compression ≤ 4 → h.tile_compression ≤ 4 → h.tile_type ≤ 6 → 127 ≤ n → write_header h n ≡ ok tt
unfolding write_header
passing h n a b c d = simp le-leb
