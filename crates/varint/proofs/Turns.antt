-- The loop that reads a varint byte by byte: what it keeps, and its turns. Assumes nothing.
use Prim.Native.Nat.{ℕ, zero, suc, ◌+◌, ◌-◌, ◌*◌, ◌^◌, ◌≤◌, ◌<◌}
use mathlib.Core.Path.{◌≡◌, ap}
use mathlib.Core.Bool.{cond}
use mathlib.Core.List.{List}
use native.Mathlib.Nat.{pow-suc, one-le-pow, mul-le-mul_left, mul-le-mul_right}
use native.Mathlib.Numerals.{add-one}
use native.Mathlib.Omega.{arith}
use borrow.Author.Tests.{le-ltb}
use lib.Arith.{digits_lt}
use lib.Dec.{ltb}
use lib.ListN.{length, drop, get_or}
use lib.Seq.{drop-cons}
use Rattle.refusal.specs.Out.{Out, ok, ◌>>=◌}
use Rattle.refusal.proofs.OutLaws.{bind_assoc, bind-cong}
use Rattle.varint.specs.Varint.{Width, limit, read, read_at, read_var}

-- a number that is read above the value of the bytes before it, and the place after it
abbrev above : List ℕ → ℕ → ℕ → ℕ × List ℕ → Out (ℕ × ℕ)
above s value scale (v, r) = ok (value + v * scale, length s - length r)

-- the whole is what is still to be read, above the value so far
pub record Kept (w : Width) (s : List ℕ) (at p left value scale : ℕ) : Type 0 where
  pub same : read_at w s at ≡ read_var left w.cap (drop p s) >>= above s value scale
  pub below : value < scale
  pub room : (w.cap + 1) * (scale * 128 ^ left) ≤ 2 ^ 64

pub start : (w : Width) (s : List ℕ) (at : ℕ) → limit w ≤ 2 ^ 64 → Kept w s at at w.before 0 1
unfolding read read_at
start w s at h =
    record {
      same = bind-cong (read w (drop at s)) _ _ (λ a _. ap {B = Out (ℕ × ℕ)} (λ v. ok (v, length s - length a.1)) (omega arith));
      below = omega arith;
      room = omega arith;
    }

-- where a byte more may follow, seven bits more fit
wider : (cap scale left : ℕ) → 0 < left → (cap + 1) * (scale * 128 ^ left) ≤ 2 ^ 64
    → ((cap + 1) * (scale * 128) ≤ 2 ^ 64) × ((cap + 1) * (scale * 128 * 128 ^ (left - 1)) ≤ 2 ^ 64)
wider cap scale zero h k = absurd (omega arith)
wider cap scale (suc l) h k =
    let one : suc l - 1 ≡ l = omega arith in
    let k' : (cap + 1) * (scale * (128 ^ l * 128)) ≤ 2 ^ 64 = rw (pow-suc 128 l) at k in
    (omega (arith, mul-le-mul_left ((cap + 1) * scale) (one-le-pow l 128 (omega arith))), rw one (omega arith))

at_byte : (n cap : ℕ) (s : List ℕ) (p : ℕ) → 0 < n → p < length s
    → read_var n cap (drop p s)
    ≡ cond (ltb (get_or s p 0) 128) (ok (get_or s p 0, drop (p + 1) s)) (read_var (n - 1) cap (drop (p + 1) s) >>= λ (v, r). ok (get_or s p 0 - 128 + 128 * v, r))
at_byte zero cap s p h l = absurd (omega arith)
at_byte (suc n) cap s p h l = let one : suc n - 1 ≡ n = omega arith in rw (one, add-one, drop-cons s p 0)

module _ {w : Width} {s : List ℕ} {at p left value scale : ℕ} (k : Kept w s at p left value scale) where
  pub fits : (b : ℕ) → 1 ≤ w.cap → 0 < left → b < 128 → (value + b * scale < 2 ^ 64) × (scale * 128 < 2 ^ 64)
  fits b c h l = omega (arith, digits_lt {q = b} {m = 128} {r = value} {c = scale} l k.below, (wider w.cap scale left h k.room).0, mul-le-mul_right (scale * 128) c)

  pub last_fits : (b : ℕ) → left ≡ 0 → b ≤ w.cap → value + b * scale < 2 ^ 64
  last_fits b h l =
      let r : (w.cap + 1) * (scale * 128 ^ 0) ≤ 2 ^ 64 = rw h at k.room in
      omega (arith, digits_lt {q = b} {m = w.cap + 1} {r = value} {c = scale} (omega arith) k.below)

  -- the byte at the place
  module _ {b : ℕ} (e : b ≡ get_or s p 0) (l : p < length s) where
    pub turn : 0 < left → 128 ≤ b → b < 256 → Kept w s at (p + 1) (left - 1) (value + (b - 128) * scale) (scale * 128)
    turn h t u =
        record {
          same =
              rw (k.same, at_byte left w.cap s p h l, ← e, le-ltb b 128 t, bind_assoc)
              (bind-cong (read_var (left - 1) w.cap (drop (p + 1) s)) _ _ (λ a _. ap {B = Out (ℕ × ℕ)} (λ x. ok (x, length s - length a.1)) (omega arith)));
          below = omega (arith, digits_lt {q = b - 128} {m = 128} {r = value} {c = scale} (omega arith) k.below);
          room = (wider w.cap scale left h k.room).1;
        }
