-- In entries that pass the checks, search finds exactly the entry that covers the target. Assumes nothing.
use Prim.Native.Nat.{ℕ, suc, ◌+◌, ◌-◌, ◌≤◌, ◌<◌}
use mathlib.Core.Path.{◌≡◌, refl, ap, ◌∙◌}
use mathlib.Core.Bool.{Bool, true, false, cond}
use mathlib.Core.List.Memᴰ
use mathlib.Core.List.{List, [], ◌∷◌, Memᴰ}
use mathlib.Core.Option.{Option, none, some}
use mathlib.Core.Logic.{◌⊎◌, inl, inr}
use native.Mathlib.Omega.{arith}
use borrow.Author.Tests.{lt-ltb, le-leb, lt-leb, ne_eqb, leb-true, ltb-true}
use lib.Dec.{leb, ltb}
use Rattle.tile.specs.Answers.{max_id}
use Rattle.directory.specs.Entries.{Entry, Valid, after}
use Rattle.directory.specs.Search.{All, Covers, IsTile, absent, hit, last_at, search, tile}

-- below the least id there is nothing
pub none_below : (lo t : ℕ) (es : List Entry) → Valid lo es → t < lo → last_at es t ≡ none
none_below lo t [] v h = refl
none_below lo t (e ∷ es) v h =
    let low : lo ≤ e.id = v.0.low in
    rw (none_below (after e) t es v.1 (omega arith), lt-leb e.id t (omega arith))

pub last-covering : (lo t : ℕ) (es : List Entry) (e : Entry) → Valid lo es → Memᴰ e es → Covers e t → last_at es t ≡ some e
last-covering lo t [] e v m c = absurd (Memᴰ.not-nil m)
last-covering lo t (x ∷ xs) e v m c = go (Memᴰ.cases_cons m) (λ m'. last-covering (after x) t xs e v.1 m' c)
  where
    go : (e ≡ x) ⊎ Memᴰ e xs → (Memᴰ e xs → last_at xs t ≡ some e) → last_at (x ∷ xs) t ≡ some e
    go (inl p) ih =
        let u : t < e.id + e.run = c.upto in
        let f : e.id ≤ t = c.from in
        let q : e.id ≡ x.id = ap (λ (y : Entry). y.id) p in
        let q' : e.run ≡ x.run = ap (λ (y : Entry). y.run) p in
        rw (none_below (after x) t xs v.1 (omega arith), le-leb x.id t (omega arith), p)
    go (inr m') ih = rw (ih m')

pub last-is : (t : ℕ) (es : List Entry) (e : Entry) → last_at es t ≡ some e → Memᴰ e es × (e.id ≤ t)
last-is t [] e p = let z : ◌≡◌ {A = ℕ} 0 1 = cc in absurd (omega arith)
last-is t (x ∷ xs) e p = go (last_at xs t) refl (last-is t xs e)
  where
    here : (b : Bool) → leb x.id t ≡ b → cond b (some x) none ≡ some e → Memᴰ e (x ∷ xs) × (e.id ≤ t)
    here true q r = let s : e ≡ x = cc in (Memᴰ.head s, rw s (leb-true _ _ q))
    here false q r = let z : ◌≡◌ {A = ℕ} 0 1 = cc in absurd (omega arith)

    go : (o : Option Entry) → last_at xs t ≡ o → (last_at xs t ≡ some e → Memᴰ e xs × (e.id ≤ t)) → Memᴰ e (x ∷ xs) × (e.id ≤ t)
    go none q ih = here (leb x.id t) refl (rw q at p)
    go (some y) q ih = let s : last_at xs t ≡ some e = q ∙ (rw q at p) in (Memᴰ.tail (ih s).0, (ih s).1)

pub all-at : {P : Entry → Type 0} (es : List Entry) (e : Entry) → ((x y : Entry) → x ≡ y → P y → P x) → All P es → Memᴰ e es → P e
all-at [] e k a m = absurd (Memᴰ.not-nil m)
all-at {P} (x ∷ xs) e k a m = go (Memᴰ.cases_cons m) (all-at xs e k a.1)
  where
    go : (e ≡ x) ⊎ Memᴰ e xs → (Memᴰ e xs → P e) → P e
    go (inl p) ih = k e x p a.0
    go (inr m') ih = ih m'

pub mem-end : (lo : ℕ) (es : List Entry) (e : Entry) → Valid lo es → Memᴰ e es → e.id + e.run ≤ suc max_id
mem-end lo [] e v m = absurd (Memᴰ.not-nil m)
mem-end lo (x ∷ xs) e v m = go (Memᴰ.cases_cons m) (mem-end (after x) xs e v.1)
  where
    go : (e ≡ x) ⊎ Memᴰ e xs → (Memᴰ e xs → e.id + e.run ≤ suc max_id) → e.id + e.run ≤ suc max_id
    go (inl p) ih = rw p v.0.end
    go (inr m') ih = ih m'

hit-covering : (t : ℕ) (e : Entry) → Covers e t → hit t (some e) ≡ tile e
hit-covering t e c =
    let u : t < e.id + e.run = c.upto in
    let f : e.id ≤ t = c.from in
    rw (ne_eqb e.run 0 (λ z. omega arith), lt-ltb (t - e.id) e.run (omega arith))

pub search-covering : (lo t : ℕ) (es : List Entry) (e : Entry) → Valid lo es → Memᴰ e es → Covers e t → search es t ≡ tile e
unfolding search
search-covering lo t es e v m c = rw (last-covering lo t es e v m c) (hit-covering t e c)

-- what search can answer where no entry is a pointer
pub data Answered (es : List Entry) (t : ℕ) : Type 0 where
  none-covers : search es t ≡ absent → Answered es t
  one_covers : (e : Entry) → search es t ≡ tile e → Memᴰ e es → Covers e t → Answered es t

pub answered : (es : List Entry) (t : ℕ) → All IsTile es → Answered es t
unfolding search
answered es t a = go (last_at es t) refl
  where
    there : (e : Entry) → last_at es t ≡ some e → Memᴰ e es × (e.id ≤ t) → 0 < e.run → (b : Bool) → ltb (t - e.id) e.run ≡ b → Answered es t
    there e p q h true r =
        let l : t - e.id < e.run = ltb-true _ _ r in
        one_covers e (rw (p, ne_eqb e.run 0 (λ z. omega arith), r)) q.0 (record { from = q.1; upto = omega arith })
    there e p q h false r = none-covers (rw (p, ne_eqb e.run 0 (λ z. omega arith), r))

    at_last : (e : Entry) → last_at es t ≡ some e → Memᴰ e es × (e.id ≤ t) → Answered es t
    at_last e p q = there e p q (all-at es e (λ x y s. λ h. rw s h) a q.0) (ltb (t - e.id) e.run) refl

    go : (o : Option Entry) → last_at es t ≡ o → Answered es t
    go none p = none-covers (rw p)
    go (some e) p = at_last e p (last-is t es e p)

pub search-absent : (es : List Entry) (t : ℕ) → All IsTile es → ((e : Entry) → Memᴰ e es → Covers e t → ⊥) → search es t ≡ absent
search-absent es t a k = go (answered es t a)
  where
    go : Answered es t → search es t ≡ absent
    go (none-covers p) = p
    go (one_covers e p m c) = absurd (k e m c)

pub search-tile : (es : List Entry) (t : ℕ) (e : Entry) → All IsTile es → search es t ≡ tile e → Memᴰ e es × Covers e t
search-tile es t e a p = go (answered es t a)
  where
    go : Answered es t → Memᴰ e es × Covers e t
    go (none-covers q) = let z : ◌≡◌ {A = ℕ} 0 1 = cc in absurd (omega arith)
    go (one_covers e' q m c) = let s : e ≡ e' = cc in (rw s m, rw s c)
