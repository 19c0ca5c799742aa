-- The checks of entries that are to be written, one entry at a time. Assumes nothing.
use Prim.Native.Nat.{ℕ, ◌+◌, ◌^◌, ◌≤◌, ◌<◌}
use mathlib.Core.Path.{◌≡◌, refl, ap, sym, ◌∙◌}
use mathlib.Core.List.{List, [], ◌∷◌}
use mathlib.Core.Option.{Option, some}
use native.Mathlib.Omega.{arith}
use borrow.Author.Tests.{ltb-true}
use lib.Dec.{ltb}
use Rattle.refusal.specs.Out.{Out, ok, bad, ◌>>=◌, need}
use Rattle.refusal.proofs.OutLaws.{need-bind, need-ok, ok-is}
use Rattle.directory.specs.Entries.{Entry, Good, Valid, after}
use Rattle.directory.specs.Encode.{Fitting, code_of}
use Rattle.directory.specs.Answers.{checked}
use Rattle.directory.specs.Search.{All}
use Rattle.directory.proofs.Checks.{one-sound}
use Rattle.writer.specs.Stock.{Narrow}
use Rattle.writer.specs.Write.{check_all, check_coded_lem}
use Rattle.writer.specs.Cells.{Codable, coded_one}

-- ---- one entry: the checks of reading, then its code

pub coded_steps : (lo : ℕ) (p : Option ℕ) (e : Entry) → coded_one lo p e ≡ checked lo e.id e.run e.len >>= λ next. need (ltb (code_of p e.off) (2 ^ 64)) 11 (ok next)
unfolding coded_one checked
coded_steps lo p e = sym (simp need-bind)

one-coded : {A : Type 0} (lo : ℕ) (p : Option ℕ) (e : Entry) (x : Out A) (y : A) → check_coded_lem lo p e x ≡ ok y
    → Good lo e × (code_of p e.off < 2 ^ 64) × (x ≡ ok y)
one-coded lo p e x y h =
    let g = one-sound lo e (need (ltb (code_of p e.off) (2 ^ 64)) 11 x) y h in
    let k = need-ok (ltb (code_of p e.off) (2 ^ 64)) 11 x y g.1 in
    (g.0, ltb-true (code_of p e.off) (2 ^ 64) k.0, k.1)

pub coded-sound : (lo : ℕ) (p : Option ℕ) (e : Entry) (next : ℕ) → ok next ≡ coded_one lo p e → Good lo e × (code_of p e.off < 2 ^ 64) × (after e ≡ next)
unfolding coded_one
coded-sound lo p e next h = let g = one-coded lo p e (ok (after e)) next (sym h) in (g.0, g.1, ok-is g.2)

-- ---- entries

all_more : {A : Type 0} (lo : ℕ) (p : Option ℕ) (e : Entry) (es : List Entry) (x : Out A)
    → check_all lo p (e ∷ es) x ≡ coded_one lo p e >>= λ next. check_all next (some (e.off + e.len)) es x
unfolding coded_one
all_more lo p e es x = sym (simp need-bind)

-- a turn over entries, where the checks of all of them come to w
module _ {A : Type 0} (lo : ℕ) (p : Option ℕ) (all : List Entry) (x : Out A) {w : Out A} (i : check_all lo p all x ≡ w) where
  module _ {e : Entry} {es : List Entry} (m : all ≡ e ∷ es) where
    pub all-bad : {k : ℕ} → bad k ≡ coded_one lo p e → bad k ≡ w
    all-bad h = sym (ap (λ l. check_all lo p l x) m ∙ all_more lo p e es x ∙ rw (← h)) ∙ i

    pub all-on : {next : ℕ} → ok next ≡ coded_one lo p e → check_all next (some (e.off + e.len)) es x ≡ w
    all-on h = sym (ap (λ l. check_all lo p l x) m ∙ all_more lo p e es x ∙ rw (← h)) ∙ i

  pub all_done : all ≡ [] → x ≡ w
  all_done m = sym (ap (λ l. check_all lo p l x) m) ∙ i

pub all_then : {A B : Type 0} (lo : ℕ) (p : Option ℕ) (es : List Entry) (x : Out A) (f : A → Out B) → check_all lo p es x >>= f ≡ check_all lo p es (x >>= f)
all_then lo p [] x f = refl
all_then lo p (e ∷ es) x f = simp (need-bind, all_then (after e) (some (e.off + e.len)) es x f)

-- entries that pass the checks are valid, and can be coded
pub all_codable : {A : Type 0} (lo prev : ℕ) (p : Option ℕ) (es : List Entry) (x : Out A) (y : A) → prev ≤ lo → check_all lo p es x ≡ ok y
    → Valid lo es × Codable prev p es × (x ≡ ok y)
all_codable lo prev p [] x y h e = (tt, tt, e)
all_codable lo prev p (v ∷ vs) x y h e =
    let g = one-coded lo p v (check_all (after v) (some (v.off + v.len)) vs x) y e in
    let low : lo ≤ v.id = g.0.low in
    let r = all_codable (after v) v.id (some (v.off + v.len)) vs x y (omega arith) g.2 in ((g.0, r.0), ((omega arith, g.1), r.1), r.2)

-- and valid entries whose numbers are narrow fit their columns then
pub codable-fits : (lo prev : ℕ) (p : Option ℕ) (es : List Entry) → Codable prev p es → Valid lo es → All Narrow es → Fitting prev p es
codable-fits lo prev p [] c v n = tt
codable-fits lo prev p (e ∷ es) c v n = (
  record { rises = c.0.0; id64 = omega (arith, v.0.top); run32 = n.0.run32; len32 = n.0.len32; off64 = n.0.off64; code64 = c.0.1 },
  codable-fits (after e) e.id (some (e.off + e.len)) es c.1 v.1 n.1,
)

-- so entries that pass the checks are valid, and fit their columns
pub all_sound : {A : Type 0} (lo prev : ℕ) (p : Option ℕ) (es : List Entry) (x : Out A) (y : A) → prev ≤ lo → All Narrow es → check_all lo p es x ≡ ok y
    → Valid lo es × Fitting prev p es × (x ≡ ok y)
all_sound lo prev p es x y h a e = let s = all_codable lo prev p es x y h e in (s.0, codable-fits lo prev p es s.1 s.0 a, s.2)
