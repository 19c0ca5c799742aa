-- A call that goes from section to section does the plan's stores. Assumes nothing.
use mathlib.Core.Path.{◌≡◌}
use mathlib.Core.List.{List}
use Prim.Native.Nat.{ℕ, ◌+◌}
use native.Mathlib.Omega.{arith}
use lib.ListN.{length, take, drop, length-append}
use Rattle.publisher.specs.declared.sections.Cut.{Cut}
use Rattle.publisher.specs.Cuts.{Done}
use Rattle.publisher.specs.Plan.{upward, zeros, behind, front, plan}
use Rattle.publisher.proofs.Stores.{done_both, length-upward, length-zeros}

pub length-behind : (M T L : List ℕ) → length (behind M T L) ≡ 16384 + length M + length T + length L
unfolding behind
length-behind M T L = simp (length-append, length-upward, length-zeros) (omega arith)

pub behind_done : (M T L d d₁ d₂ d₃ d₄ : List ℕ) (c c₁ c₂ c₃ c₄ : Cut) → Done (upward 0 (zeros 16384)) c d c₁ d₁ → Done (upward 16384 M) c₁ d₁ c₂ d₂
    → Done (upward (16384 + length M) T) c₂ d₂ c₃ d₃ → Done (upward (16384 + length M + length T) L) c₃ d₃ c₄ d₄ → Done (behind M T L) c d c₄ d₄
unfolding behind
behind_done M T L d d₁ d₂ d₃ d₄ c c₁ c₂ c₃ c₄ e₁ e₂ e₃ e₄ =
    done_both _ _ _ _ _ _ _ _ e₁ (done_both _ _ _ _ _ _ _ _ e₂ (done_both _ _ _ _ _ _ _ _ e₃ e₄))

pub front_done : (H R rest first d d₁ d₂ d₃ : List ℕ) (c c₁ c₂ c₃ : Cut) → rest ≡ drop 1 H → first ≡ take 1 H → Done (upward 127 R) c d c₁ d₁
    → Done (upward 1 rest) c₁ d₁ c₂ d₂ → Done (upward 0 first) c₂ d₂ c₃ d₃ → Done (front H R) c d c₃ d₃
unfolding front
front_done H R rest first d d₁ d₂ d₃ c c₁ c₂ c₃ er ef e₁ e₂ e₃ = rw (← er, ← ef) (done_both _ _ _ _ _ _ _ _ e₁ (done_both _ _ _ _ _ _ _ _ e₂ e₃))

pub plan_done : (H R M T L d d₁ d₂ : List ℕ) (c c₁ c₂ : Cut) → Done (behind M T L) c d c₁ d₁ → Done (front H R) c₁ d₁ c₂ d₂ → Done (plan H R M T L) c d c₂ d₂
unfolding plan
plan_done H R M T L d d₁ d₂ c c₁ c₂ = done_both (behind M T L) (front H R) c c₁ c₂ d d₁ d₂
