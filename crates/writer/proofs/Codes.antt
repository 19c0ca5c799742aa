-- An offset's code, case by case. Assumes nothing.
use Prim.Native.Nat.{ℕ, suc, ◌≤◌}
use mathlib.Core.Path.{◌≡◌, refl}
use mathlib.Core.Bool.{Bool, true, false}
use mathlib.Core.Option.{Option, none, some}
use native.Mathlib.Omega.{arith}
use lib.Dec.{eqb}
use Rattle.directory.specs.Encode.{code_of}

pub code-le : (p : Option ℕ) (o : ℕ) → code_of p o ≤ suc o
code-le none o = omega arith
code-le (some x) o = go (eqb x o) refl
  where
    go : (b : Bool) → eqb x o ≡ b → code_of (some x) o ≤ suc o
    go true e = rw e (omega arith)
    go false e = rw e (omega arith)
