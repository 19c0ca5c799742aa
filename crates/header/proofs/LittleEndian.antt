-- Numbers and their bytes, at any width: std's words are the definitions', and what was put is read back. Assumes nothing.
use mathlib.Core.Path.{◌≡◌, refl, sym, ap, ◌∙◌}
use mathlib.Core.List.{List, ◌∷◌, ◌++◌}
use Prim.Native.Nat.{ℕ, zero, suc, ◌+◌, ◌*◌, ◌/◌, ◌%◌, ◌^◌, ◌<◌}
use native.Mathlib.Nat.{add-mul-div_left, add-mul-mod_self_left, add-suc, add-zero, div-div-eq-div-mul, div-lt_iff_lt-mul, mod-add-div, mul_assoc, one-mul, pow-suc, pow-succ', suc-add, zero-add, zero-lt-suc}
use native.Mathlib.Omega.{arith}
use lib.ListN.{drop, get_or, take}
use Rattle.std.proofs.lemmas.List.{get_or-drop, get_or-take}
use Rattle.std.specs.Int.{byte_worth, bytes_low_first, from_le_bytes, sum_through, to_le_bytes, w32, w64}
use Rattle.header.specs.Bytes.{byte_at, number_at, bytes_of}

-- one more byte
scaled : (m t : ℕ) → 256 ^ suc m * t ≡ 256 * (256 ^ m * t)
scaled m t = ap (λ (x : ℕ). x * t) (pow-succ' 256 m) ∙ mul_assoc 256 (256 ^ m) t

less : (m v : ℕ) → v < 256 ^ suc m → v / 256 < 256 ^ m
less m v h = (div-lt_iff_lt-mul {k = 256} {x = v} {y = 256 ^ m} (zero-lt-suc 255)).1 (rw pow-suc at h)

-- ---- reading

-- m bytes, and n bytes behind them
pub number-split : (m n : ℕ) (s : List ℕ) (k : ℕ) → number_at (m + n) s k ≡ number_at m s k + 256 ^ m * number_at n s (k + m)
unfolding number_at
number-split zero n s k = simp (zero-add, add-zero, one-mul)
number-split (suc m) n s k =
    ap (λ (j : ℕ). number_at j s k) (suc-add m n)
    ∙ ap (λ (v : ℕ). byte_at s k + 256 * v) (number-split m n s (suc k))
    ∙ ap (λ (j : ℕ). byte_at s k + 256 * (number_at m s (suc k) + 256 ^ m * number_at n s j)) (suc-add k m ∙ sym (add-suc k m))
    ∙ omega (arith, scaled m (number_at n s (k + suc m)))

-- one byte more, at the top
number-suc : (n : ℕ) (s : List ℕ) (k : ℕ) → number_at (suc n) s k ≡ number_at n s k + byte_at s (k + n) * 256 ^ n
unfolding number_at
number-suc zero s k = omega (arith, ap (byte_at s) (add-zero k))
number-suc (suc n) s k =
    let at : byte_at s (suc k + n) ≡ byte_at s (k + suc n) = ap (byte_at s) (omega arith) in
    rw (pow-suc 256 n, ← at) (omega (arith, number-suc n s (suc k)))

number_one : (s : List ℕ) (k : ℕ) → byte_at s (k + 0) ≡ number_at 1 s k
unfolding number_at
number_one s k = omega (arith, ap (byte_at s) (add-zero k))

-- the bytes of a part
byte-part : (i m : ℕ) (s : List ℕ) (k : ℕ) → i < m → get_or (take m (drop k s)) i 0 ≡ byte_at s (k + i)
byte-part i m s k h = get_or-take m (drop k s) i 0 h ∙ get_or-drop k s i 0

sum-part : (n m : ℕ) (s : List ℕ) (k : ℕ) → n < m → sum_through (λ i. byte_worth i (get_or (take m (drop k s)) i 0)) n ≡ number_at (suc n) s k
sum-part zero m s k h = byte-part 0 m s k h ∙ number_one s k
sum-part (suc n) m s k h = rw (sum-part n m s k (omega arith), byte-part (suc n) m s k h) (sym (number-suc (suc n) s k))

module _ (s : List ℕ) (k : ℕ) where
  pub u32_from_bytes : from_le_bytes w32 (take 4 (drop k s)) ≡ number_at 4 s k
  u32_from_bytes = sum-part 3 4 s k (omega arith)

  pub u64_from_bytes : from_le_bytes w64 (take 8 (drop k s)) ≡ number_at 8 s k
  u64_from_bytes = sum-part 7 8 s k (omega arith)

-- ---- writing

pub bytes-split : (m n a b : ℕ) → a < 256 ^ m → bytes_of (m + n) (a + 256 ^ m * b) ≡ bytes_of m a ++ bytes_of n b
unfolding bytes_of
bytes-split zero n a b h =
    let v : a + 1 * b ≡ b = omega arith in
    λ i. bytes_of (zero-add n i) (v i)
bytes-split (suc m) n a b h =
    let rest = 256 ^ m * b in
    let behind = ap (bytes_of (m + n)) (add-mul-div_left a rest (zero-lt-suc 255)) ∙ bytes-split m n (a / 256) b (less m a h) in
    (λ i. bytes_of (suc-add m n i) (a + scaled m b i)) ∙ (λ i. add-mul-mod_self_left a 256 rest i ∷ behind i)

low : (i n v : ℕ) → bytes_low_first (suc i) n v ≡ bytes_of n (v / 256 ^ suc i)
unfolding bytes_of
low i zero v = refl
low i (suc n) v =
    let up : v / 256 ^ suc (suc i) ≡ v / 256 ^ suc i / 256 = rw pow-suc (sym (div-div-eq-div-mul v (256 ^ suc i) 256)) in
    ap (λ (t : List ℕ). v / 256 ^ suc i % 256 ∷ t) (low (suc i) n v ∙ ap (bytes_of n) up)

pub u32_to_bytes : (v : ℕ) → to_le_bytes w32 v ≡ bytes_of 4 v
unfolding bytes_of
u32_to_bytes v = ap (λ (t : List ℕ). v % 256 ∷ t) (low 0 3 v)

pub u64_to_bytes : (v : ℕ) → to_le_bytes w64 v ≡ bytes_of 8 v
unfolding bytes_of
u64_to_bytes v = ap (λ (t : List ℕ). v % 256 ∷ t) (low 0 7 v)

-- ---- a number is read back
shift : (n x : ℕ) (s : List ℕ) (k : ℕ) → number_at n (x ∷ s) (suc k) ≡ number_at n s k
unfolding number_at
shift zero x s k = refl
shift (suc n) x s k = ap (λ (v : ℕ). byte_at s k + 256 * v) (shift n x s (suc k))

pub number-back : (n v : ℕ) → v < 256 ^ n → number_at n (bytes_of n v) 0 ≡ v
unfolding number_at bytes_of
number-back zero v h = omega arith
number-back (suc n) v h =
    ap (λ (x : ℕ). v % 256 + 256 * x) (shift n (v % 256) (bytes_of n (v / 256)) 0 ∙ number-back n (v / 256) (less n v h))
    ∙ mod-add-div v 256
