-- A proof by cases: one number is below another, or it is not. Assumes nothing.
use Prim.Native.Nat.{ℕ, ◌≤◌, ◌<◌}
use native.Mathlib.Decide.{dec_lt}
use native.Mathlib.Omega.{arith}

pub by-lt : {P : Type 0} (a b : ℕ) → (a < b → P) → (b ≤ a → P) → P
by-lt {P} a b f g = go (dec_lt a b)
  where
    go : Dec (a < b) → P
    go (yes h) = f h
    go (no h) = g (omega arith)
