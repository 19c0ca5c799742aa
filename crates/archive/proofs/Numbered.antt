-- No definition refuses with 0: so a status of 0 says that it was done. Assumes nothing.
use Prim.Native.Nat.{ℕ, ◌<◌}
use mathlib.Core.Path.{◌≡◌, refl}
use mathlib.Core.Bool.{Bool, true, false}
use mathlib.Core.List.{List, [], ◌∷◌}
use native.Mathlib.Omega.{arith}
use lib.Ieee.{Float}
use Rattle.refusal.specs.Out.{Out, ok, bad, ◌>>=◌, need}
use Rattle.directory.specs.Entries.{Entry, after}
use Rattle.acceptance.specs.Accept.{accepting, check_tiles_lem}
use Rattle.writer.specs.Answers.{building, fitted}
use Rattle.publisher.specs.Publish.{publishing, totalling}
use Rattle.publisher.specs.declared.Settings.{Settings}
use Rattle.pmtiles.specs.Exports.{status}
use Rattle.pmtiles.specs.Publishes.{publishing_given}

-- a refusal that x is has a number above 0
abbrev pub Numbered : {A : Type 0} → Out A → Type 0
Numbered x = (n : ℕ) → x ≡ bad n → 0 < n

pub of-ok : {A : Type 0} (a : A) → Numbered (ok a)
of-ok a n e = let z : ◌≡◌ {A = ℕ} 0 1 = cc in absurd (omega arith)

pub of-need : {A : Type 0} (b : Bool) (k : ℕ) (x : Out A) → 0 < k → Numbered x → Numbered (need b k x)
of-need true k x h f = f
of-need false k x h f = λ n e. let z : k ≡ n = cc in rw z at h

pub of-bind : {A B : Type 0} (x : Out A) (g : A → Out B) → Numbered x → ((a : A) → Numbered (g a)) → Numbered (x >>= g)
of-bind (ok a) g f h = h a
of-bind (bad k) g f h = λ n e. let z : k ≡ n = cc in rw z at (f k refl)

-- a status of 0 is a value's
pub done : {A : Type 0} (x : Out A) → Numbered x → 0 ≡ status x → (a : A) × (x ≡ ok a)
done (ok a) f e = (a, refl)
done (bad n) f e = absurd (omega (arith, f n refl))

ruleset steps = (of-ok, of-need, of-bind, arith)

-- ---- the builder

of-tiles : {A : Type 0} (size lo : ℕ) (es : List Entry) (x : Out A) → Numbered x → Numbered (check_tiles_lem size lo es x)
of-tiles size lo [] x f = f
of-tiles size lo (e ∷ es) x f = search (steps, of-tiles size (after e) es x f)

of-accepting : (n : ℕ) (ids runs lens offs : List ℕ) (size : ℕ) → Numbered (accepting n ids runs lens offs size)
unfolding accepting
of-accepting n ids runs lens offs size = search (steps, of-tiles)

pub of-building : (n : ℕ) (ids runs lens offs : List ℕ) (size root leaves : ℕ) → Numbered (building n ids runs lens offs size root leaves)
unfolding building fitted
of-building n ids runs lens offs size root leaves = search (steps, of-accepting)

-- ---- the publisher

of-publishing : (s : Settings) (r m d l n p b : ℕ) → Numbered (publishing s r m d l n p b)
unfolding publishing totalling
of-publishing s r m d l n p b = search steps

pub of-given : (ns : List ℕ) (ds : List Float) (cs out root metadata tiles leaves dest : List ℕ) (p b : ℕ)
    → Numbered (publishing_given ns ds cs out root metadata tiles leaves dest p b)
unfolding publishing_given
of-given ns ds cs out root metadata tiles leaves dest p b = search (steps, of-publishing)
