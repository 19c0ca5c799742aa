-- How long a directory is, entry by entry. Assumes nothing.
use Prim.Native.Nat.{ℕ, ◌+◌, ◌*◌, ◌-◌, ◌^◌, ◌≤◌, ◌<◌}
use mathlib.Core.Path.{◌≡◌, refl, ap}
use mathlib.Core.List.{List, [], ◌∷◌}
use mathlib.Core.Option.{Option, none, some}
use native.Mathlib.Omega.{arith}
use lib.ListN.{length, length-append}
use Rattle.varint.specs.Varint.{narrow, put, wide}
use Rattle.varint.proofs.Shortest.{put_same, put-size}
use Rattle.directory.specs.Entries.{Entry}
use Rattle.directory.specs.Encode.{code_of, encode}
use Rattle.writer.specs.Cells.{size_from}

-- below 2 ^ 32 both widths put the same
pub narrow-is : (x : ℕ) → x < 2 ^ 32 → put wide x ≡ put narrow x
narrow-is x h = put_same wide narrow x (omega arith) (omega arith)

module _ (prev : ℕ) (p : Option ℕ) where
  pub size_none : size_from prev p [] ≡ 0
  unfolding size_from
  size_none = refl

  pub size-more : (e : Entry) (es : List Entry) → size_from prev p (e ∷ es) ≡ size_from prev p (e ∷ []) + size_from e.id (some (e.off + e.len)) es
  unfolding size_from
  size-more e es = simp length-append (omega arith)

  pub size-one : (e : Entry) → e.run < 2 ^ 32 → e.len < 2 ^ 32
      → length (put wide (e.id - prev)) + length (put wide e.run) + length (put wide e.len) + length (put wide (code_of p e.off)) ≡ size_from prev p (e ∷ [])
  unfolding size_from
  size-one e r l = simp length-append (omega (arith, ap length (narrow-is e.run r), ap length (narrow-is e.len l)))

  pub size_small : (e : Entry) → size_from prev p (e ∷ []) ≤ 30
  unfolding size_from
  size_small e =
      simp length-append
      (omega (arith, put-size wide (e.id - prev), put-size narrow e.run, put-size narrow e.len, put-size wide (code_of p e.off)))

pub encode-length : (es : List Entry) → length (encode es) ≡ length (put wide (length es)) + size_from 0 none es
unfolding encode size_from
encode-length es = simp length-append

size-bound : (prev : ℕ) (p : Option ℕ) (es : List Entry) → size_from prev p es ≤ 30 * length es
size-bound prev p [] = omega (arith, size_none prev p)
size-bound prev p (e ∷ es) =
    omega (arith, size-more prev p e es, size_small prev p e, size-bound e.id (some (e.off + e.len)) es)

pub encode-size : (es : List Entry) → (0 < length (encode es)) × (length (encode es) ≤ 10 + 30 * length es)
encode-size es = omega (arith, encode-length es, put-size wide (length es), size-bound 0 none es)
