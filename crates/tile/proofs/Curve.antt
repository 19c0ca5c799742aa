-- The curve: the index is below 4 ^ n, and index and place undo each other. Assumes nothing.
use Prim.Native.Nat.{ℕ, zero, suc, ◌+◌, ◌-◌, ◌*◌, ◌/◌, ◌%◌, ◌^◌, ◌<◌, ◌≤◌}
use mathlib.Core.Path.{◌≡◌, refl, sym, ap, ap₂, ◌∙◌, subst⁻¹}
use mathlib.Core.Bool.{Bool, true, false, cond}
use native.Mathlib.Nat.{sub-zero, mul-one, mul-le-mul_left, mul_assoc, add-mul, pow-succ', two-pow-succ, one-le-pow, mod-lt, zero-lt-suc, div-add-mod', div-lt_iff_lt-mul}
use native.Mathlib.Omega.{arith}
use Rattle.std.proofs.lemmas.Grind.{common_steps}
use native.Mathlib.Numerals.{add-one}
use lib.Dec.{leb}
use lib.Pow.{pow_pos, pow-add}
use Rattle.std.proofs.lemmas.Nat.{mul-pow}
use lib.Arith.{digits_div, digits_mod, mod-mul}
use Rattle.tile.specs.Tile.{index, placed, place}

pub four-pos : (n : ℕ) → 0 < 4 ^ n
four-pos n = one-le-pow n 4 (zero-lt-suc 3)

-- ---- the index is below 4^n

pub index-lt : (n x y : ℕ) → x < 2 ^ n → y < 2 ^ n → index n x y < 4 ^ n
unfolding index
index-lt zero x y hx hy = omega arith
index-lt (suc n) x y hx hy = grind (arith, common_steps, pow-succ' 4 n, two-pow-succ n, pow_pos n, index-lt n)

-- ---- a place is below 2^n

abbrev pub Inside : ℕ → ℕ × ℕ → Type 0
Inside n p = (p.0 < 2 ^ n) × (p.1 < 2 ^ n)

inside-step : (n d : ℕ) (p : ℕ × ℕ) → Inside n p → Inside (suc n) (placed n d p)
inside-step n d p h = grind (arith, common_steps, two-pow-succ n, pow_pos n)

pub place_inside : (n h : ℕ) → Inside n (place n h)
unfolding place
place_inside zero h = omega arith
place_inside (suc n) h = inside-step n (h / 4 ^ n) (place n (h % 4 ^ n)) (place_inside n (h % 4 ^ n))

-- ---- place, then index

-- the index of a placed pair is its rank, and then the index of the lower bits
index-placed : (n d : ℕ) (p : ℕ × ℕ) → d < 4 → Inside n p → index (suc n) (placed n d p).0 (placed n d p).1 ≡ d * 4 ^ n + index n p.0 p.1
unfolding index
index-placed n d p hd h = grind (arith, common_steps, pow_pos n)

pub index-place : (n h : ℕ) → h < 4 ^ n → index n (place n h).0 (place n h).1 ≡ h
unfolding place index
index-place zero h l = omega arith
index-place (suc n) h l =
    index-placed n (h / 4 ^ n) (place n (h % 4 ^ n)) ((div-lt_iff_lt-mul (four-pos n)).1 (rw (← pow-succ' 4 n) l)) (place_inside n (h % 4 ^ n))
    ∙ ap (λ (v : ℕ). h / 4 ^ n * 4 ^ n + v) (index-place n (h % 4 ^ n) (mod-lt h (four-pos n)))
    ∙ div-add-mod' h (4 ^ n)

-- ---- index, then place

pub place-index : (n x y : ℕ) → x < 2 ^ n → y < 2 ^ n → place n (index n x y) ≡ (x, y)
unfolding place index
place-index zero x y hx hy = ap₂ (λ (u v : ℕ). (u, v)) (omega arith) (omega arith)
place-index (suc n) x y hx hy = grind (arith, common_steps, two-pow-succ n, pow_pos n, index-lt n, digits_div, digits_mod, place-index n)

-- ---- one turn of the loop: p is 2 ^ n, as the code has it, and each number is picked from two

carry : (n h r k : ℕ) → (h * 4 + r) * 4 ^ n + k ≡ h * 4 ^ suc n + (r * 4 ^ n + k)
carry n h r k = rw (pow-succ' 4 n, ← mul_assoc h 4 (4 ^ n), add-mul (h * 4) r (4 ^ n)) (omega arith)

module _ (n x y p h : ℕ) (q : p ≡ 2 ^ n) where
  abbrev next : Bool → Bool → ℕ
  next a b =
      (h * 4 + cond a (cond b 2 3) (cond b 1 0)) * 4 ^ n
      + index n
      (cond b (x - cond a p 0) (cond a (p - 1 - (y - cond b p 0)) (y - cond b p 0)))
      (cond b (y - cond b p 0) (cond a (p - 1 - (x - cond a p 0)) (x - cond a p 0)))

  walk-by : (a b : Bool) → leb p x ≡ a → leb p y ≡ b → next a b ≡ h * 4 ^ suc n + index (suc n) x y
  unfolding index
  walk-by false false e f = rw (sub-zero x, sub-zero y, ← q, e, f) (carry n h 0 (index n y x))
  walk-by false true e f = rw (sub-zero x, ← q, e, f, ← q) (carry n h 1 (index n x (y - p)))
  walk-by true true e f = rw (← q, e, f, ← q) (carry n h 2 (index n (x - p) (y - p)))
  walk-by true false e f = rw (sub-zero y, ← q, e, f, ← q) (carry n h 3 (index n (p - 1 - y) (p - 1 - (x - p))))

  pub walked : next (leb p x) (leb p y) ≡ h * 4 ^ suc n + index (suc n) x y
  walked = walk-by (leb p x) (leb p y) refl refl

-- what has been gathered is at most the whole
pub gathered-le : (n h k t : ℕ) → h * 4 ^ n + k ≡ t → h ≤ t
gathered-le n h k t e = omega (arith, e, mul-le-mul_left h (four-pos n), mul-one h)

pub four-two : (n : ℕ) → 2 ^ (2 * n) ≡ 4 ^ n
four-two n = let e : 2 * n ≡ n + n = omega arith in rw (e, pow-add 2 n n) (sym (mul-pow 2 2 n))

pub inside_of : (n h x y : ℕ) → (x, y) ≡ place n h → (x < 2 ^ n) × (y < 2 ^ n)
inside_of n h x y e = subst⁻¹ (Inside n) e (place_inside n h)

pub place_up : (n h x y : ℕ) → (x, y) ≡ place n (h % 4 ^ n) → placed n (h / 2 ^ (2 * n) % 4) (x, y) ≡ place (n + 1) (h % 4 ^ (n + 1))
unfolding place
place_up n h x y e =
    rw (add-one, pow-succ' 4 n, mod-mul h {m = 4} (zero-lt-suc 3) (four-pos n), digits_div (h / 4 ^ n % 4) (mod-lt h (four-pos n)), digits_mod (h / 4 ^ n % 4) (mod-lt h (four-pos n)), four-two n, e)
