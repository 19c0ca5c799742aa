-- `varint::size` meets its contract: 1 + 9 * n / 64 counts the groups of seven among n bits, up to 64. Assumes nothing.
use Prim.Native.Nat.{ℕ, zero, suc, ◌+◌, ◌-◌, ◌*◌, ◌/◌, ◌^◌, ◌≤◌, ◌<◌}
use mathlib.Core.Path.{◌≡◌, ap, ◌∙◌}
use native.Mathlib.Omega.{arith}
use lib.Count.{leading_of_zero, leading_top, count_leading_zeros}
use lib.ListN.{length}
use lib.Pow.{pow-add, pow_mono, pow_pos}
use Rattle.varint.specs.Varint.{put, wide}
use Rattle.varint.proofs.Shortest.{put-more, put_one}
use Rattle.varint.proofs.size.Goals as goal

seven : (k : ℕ) → 2 ^ (7 * suc k) ≡ 128 * 2 ^ (7 * k)
seven k = let e : 7 * suc k ≡ 7 + 7 * k = omega arith in ap (λ (i : ℕ). 2 ^ i) e ∙ pow-add 2 7 (7 * k)

by_bits : (k x : ℕ) → x < 2 ^ 64 → 2 ^ (7 * k) ≤ x → x < 2 ^ (7 * suc k) → length (put wide x) ≡ suc k
by_bits zero x h lo hi = ap length (put_one wide x hi)
by_bits (suc k) x h lo hi =
    let p = seven k in
    let q = seven (suc k) in
    let some = pow_pos (7 * k) in
    ap length (put-more wide x (omega arith) (omega arith)) ∙ ap suc (by_bits k (x / 128) (omega arith) (omega arith) (omega arith))

flat : (x : ℕ) → x < 2 ^ 64 → (640 - 9 * count_leading_zeros 64 x) / 64 ≡ length (put wide x)
flat zero h = let z = leading_of_zero 64 in omega (arith, ap length (put_one wide 0 (omega arith)))
flat (suc x) h =
    let top = leading_top 64 (suc x) (omega arith) h in
    let j = top.0 in
    let lo = pow_mono {i = 7 * (j / 7)} {j = j} (omega arith) in
    let hi = pow_mono {i = suc j} {j = 7 * suc (j / 7)} (omega arith) in
    let e = by_bits (j / 7) (suc x) h (omega arith) (omega arith) in
    omega arith

pub returns : goal.returns
returns c = flat c.args.x c.ranges.x.fits
