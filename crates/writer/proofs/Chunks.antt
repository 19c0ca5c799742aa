-- Entries cut into pieces: joined they are the entries again, and each piece makes a leaf. Assumes nothing.
use Prim.Native.Nat.{ℕ, zero, suc, ◌+◌, ◌-◌, ◌*◌, ◌≤◌, ◌<◌}
use mathlib.Core.Path.{◌≡◌, refl, ap, sym}
use mathlib.Core.List.{List, [], ◌∷◌, ◌++◌}
use native.Mathlib.Omega.{arith}
use lib.ListN.{drop, length, length-drop, length-take, take, take-append-drop}
use Rattle.std.specs.Int.{div_ceil}
use Rattle.std.proofs.Math.Nat.{mul-le-mul_right, suc-mul}
use Rattle.std.proofs.lemmas.Grind.{div_ceil_times}
use Rattle.varint.proofs.Cases.{by-lt}
use Rattle.directory.specs.Entries.{Entry}
use Rattle.writer.specs.Stock.{Stock}
use Rattle.writer.specs.Build.{chunks}
use Rattle.writer.proofs.Stocks.{stock-drop, stock-take}

abbrev pub joined : List (List Entry) → List Entry
joined [] = []
joined (c ∷ cs) = c ++ joined cs

pub joined-chunks : (f k : ℕ) (es : List Entry) → 0 < k → length es ≤ f → joined (chunks f k es) ≡ es
joined-chunks zero k [] h l = refl
joined-chunks zero k (e ∷ es) h l = absurd (omega arith)
joined-chunks (suc f) k [] h l = refl
joined-chunks (suc f) k (e ∷ es) h l =
    rw (joined-chunks f k (drop k (e ∷ es)) h (rw length-drop (omega arith))) (take-append-drop k (e ∷ es))

pub chunks-nil : (f k : ℕ) → chunks f k [] ≡ []
chunks-nil zero k = refl
chunks-nil (suc f) k = refl

pub chunk-step : (f k : ℕ) (es : List Entry) → 0 < length es → chunks (suc f) k es ≡ take k es ∷ chunks f k (drop k es)
chunk-step f k [] h = absurd (omega arith)
chunk-step f k (e ∷ es) h = refl

-- any bound that is large enough gives the same pieces
pub chunk-fuel : (f g k : ℕ) (es : List Entry) → 0 < k → length es ≤ f → length es ≤ g → chunks f k es ≡ chunks g k es
chunk-fuel zero g k es h p q = none_left es p
  where
    none_left : (es : List Entry) → length es ≤ 0 → chunks 0 k es ≡ chunks g k es
    none_left [] p = sym (chunks-nil g k)
    none_left (e ∷ es) p = absurd (omega arith)
chunk-fuel (suc f) g k es h p q = step g es p q (chunk-fuel f)
  where
    step : (g : ℕ) (es : List Entry) → length es ≤ suc f → length es ≤ g
        → ((g k : ℕ) (es : List Entry) → 0 < k → length es ≤ f → length es ≤ g → chunks f k es ≡ chunks g k es) → chunks (suc f) k es ≡ chunks g k es
    step g [] p q ih = sym (chunks-nil g k)
    step zero (e ∷ es) p q ih = absurd (omega arith)
    step (suc g) (e ∷ es) p q ih =
        ap {B = List (List Entry)} (λ t. take k (e ∷ es) ∷ t) (ih g k (drop k (e ∷ es)) h (rw length-drop (omega arith)) (rw length-drop (omega arith)))

-- how many pieces there are
chunks-bounds : (f k : ℕ) (es : List Entry) → 0 < k → length es ≤ f
    → (length es ≤ length (chunks f k es) * k) × (length (chunks f k es) * k < length es + k) × (length es ≡ 0 → length (chunks f k es) * k ≡ 0)
chunks-bounds zero k [] h l = (omega arith, omega arith, λ z. omega arith)
chunks-bounds zero k (e ∷ es) h l = absurd (omega arith)
chunks-bounds (suc f) k [] h l = (omega arith, omega arith, λ z. omega arith)
chunks-bounds (suc f) k (e ∷ es) h l =
    let b = chunks-bounds f k (drop k (e ∷ es)) h (rw length-drop (omega arith)) in
    let n : length (drop k (e ∷ es)) ≡ suc (length es) - k = length-drop k (e ∷ es) in
    let m : suc (length (chunks f k (drop k (e ∷ es)))) * k ≡ length (chunks f k (drop k (e ∷ es))) * k + k = suc-mul (length (chunks f k (drop k (e ∷ es)))) k in (
      omega (arith, m, n, b.0),
      by-lt k (suc (length es)) (λ j. omega (arith, m, n, b.1)) (λ j. omega (arith, m, b.2 (omega (arith, n)))),
      λ z. absurd (omega arith),
    )

unique : (a b n k : ℕ) → n ≤ a * k → b * k < n + k → b ≤ a
unique a b n k h l = by-lt a b (λ j. let m = mul-le-mul_right k j in absurd (omega (arith, m, suc-mul a k))) (λ j. j)

pub chunks-count : (k : ℕ) (es : List Entry) → 0 < k → length (chunks (length es) k es) ≡ div_ceil (length es) k
chunks-count k es h =
    let b = chunks-bounds (length es) k es h (omega arith) in
    let d = div_ceil_times (length es) k h in
    omega (arith, unique (length (chunks (length es) k es)) (div_ceil (length es) k) (length es) k b.0 d.1, unique (div_ceil (length es) k) (length (chunks (length es) k es)) (length es) k d.0 b.1)

-- a piece that makes a leaf
pub record Leaf (c : List Entry) : Type 0 where
  pub full : 0 < length c
  pub stock : Stock c

abbrev pub AllLeaf : List (List Entry) → Type 0
AllLeaf [] = Unit {0}
AllLeaf (c ∷ cs) = Leaf c × AllLeaf cs

pub all-leaf : (f k : ℕ) (es : List Entry) → 0 < k → Stock es → AllLeaf (chunks f k es)
all-leaf zero k es h s = tt
all-leaf (suc f) k [] h s = tt
all-leaf (suc f) k (e ∷ es) h s = (
  record { full = rw length-take (omega arith); stock = stock-take k (e ∷ es) s },
  all-leaf f k (drop k (e ∷ es)) h (stock-drop k (e ∷ es) s),
)
