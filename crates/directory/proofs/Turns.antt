-- A loop that reads a column into a store, turn by turn. Assumes nothing.
use Prim.Native.Nat.{ℕ, suc, ◌+◌, ◌-◌, ◌<◌}
use mathlib.Core.Path.{◌≡◌, refl, ap, sym}
use mathlib.Core.Option.{Option, some}
use mathlib.Core.List.{List, [], ◌∷◌, ◌++◌, append_assoc}
use native.Mathlib.Nat.{add-zero}
use native.Mathlib.Numerals.{add-one}
use native.Mathlib.Omega.{arith}
use lib.ListN.{drop, get_or, length, set, take}
use lib.Seq.{drop-drop, get_or-drop, take-suc-set}
use Rattle.refusal.specs.Out.{Out, ok, bad, ◌>>=◌}
use Rattle.varint.specs.Varint.{Width, read_at, wide}
use Rattle.directory.specs.Columns.{column_at, offset_of, offset_step}

-- what was read, before what is read next
abbrev before : List ℕ → Out (List ℕ × ℕ) → Out (List ℕ × ℕ)
before xs o = o >>= λ (ys, q). ok (xs ++ ys, q)

before-before : (xs ys : List ℕ) (o : Out (List ℕ × ℕ)) → before xs (before ys o) ≡ before (xs ++ ys) o
before-before xs ys (ok a) = ap {B = Out (List ℕ × ℕ)} (λ t. ok (t, a.1)) (sym (append_assoc xs ys a.0))
before-before xs ys (bad r) = refl

module _ {S : Type 0} (w : Width) (step : S → ℕ → Out (ℕ × S)) (s₀ : S) (l : List ℕ) (from : ℕ) (store₀ : List ℕ) where
  -- i of the values stand in the store, and the others at a place of the list
  pub record Filled (i : ℕ) (s : S) (at : ℕ) (store : List ℕ) : Type 0 where
    pub same : column_at w step (length store₀) s₀ l from ≡ before (take i store) (column_at w step (length store₀ - i) s l at)

-- one more value, put into the next slot
pub turn : {S : Type 0} {w : Width} {step : S → ℕ → Out (ℕ × S)} {s₀ : S} {l : List ℕ} {from : ℕ} {store₀ : List ℕ} {i : ℕ} {s : S} {at : ℕ} {store : List ℕ} {v p x : ℕ} {s' : S}
    → Filled w step s₀ l from store₀ i s at store → i < length store₀ → length store ≡ length store₀ → ok (v, p) ≡ read_at w l at → step s v ≡ ok (x, s')
    → Filled w step s₀ l from store₀ (i + 1) s' p (set store i x)
turn {w = w} {step} {l = l} {store₀ = store₀} {i = i} {store = store} {p = p} {x} {s'} k m size e g =
    let q : length store₀ - i ≡ suc (length store₀ - (i + 1)) = omega arith in
    let r : i < length store = omega arith in
    record { same = rw (k.same, q, ← e, g, before-before (take i store) (x ∷ []) (column_at w step (length store₀ - (i + 1)) s' l p), add-one i, take-suc-set store i x r) }

-- a turn of the offsets, where the entry before ends at e
pub offset_turn : {s₀ : Option ℕ × List ℕ} {l : List ℕ} {from : ℕ} {store₀ : List ℕ} {i : ℕ} {e : Option ℕ} {at : ℕ} {store : List ℕ} {code p o : ℕ} (lens : List ℕ)
    → Filled wide offset_step s₀ l from store₀ i (e, drop i lens) at store → i < length store₀ → length store ≡ length store₀ → ok (code, p) ≡ read_at wide l at → ok o ≡ offset_of e code
    → Filled wide offset_step s₀ l from store₀ (i + 1) (some (o + get_or lens i 0), drop (i + 1) lens) p (set store i o)
offset_turn {i = i} {e} {code = code} lens k m size r h = turn k m size r (rw (← h, drop-drop 1 i lens, get_or-drop i lens 0 0, add-zero i))
