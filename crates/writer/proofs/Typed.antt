-- Entries of stores, and parts of them, have what holds of every number or entry. Assumes nothing.
use Prim.Native.Nat.{ℕ, zero, suc}
use mathlib.Core.List.{List, [], ◌∷◌}
use lib.ListN.{drop, take}
use Rattle.directory.specs.Entries.{Entry}
use Rattle.directory.specs.Columns.{entries}
use Rattle.directory.specs.Search.{All}
use Rattle.writer.specs.Stock.{Narrow, Typed}
use Rattle.writer.specs.Cells.{part}

pub all-narrow : (a b c d : List ℕ) → Typed a b c d → All Narrow (entries a b c d)
all-narrow [] b c d t = tt
all-narrow (i ∷ a) [] c d t = tt
all-narrow (i ∷ a) (r ∷ b) [] d t = tt
all-narrow (i ∷ a) (r ∷ b) (l ∷ c) [] t = tt
all-narrow (i ∷ a) (r ∷ b) (l ∷ c) (o ∷ d) t = (
  record { run32 = t.run32 0; len32 = t.len32 0; off64 = t.off64 0 },
  all-narrow a b c d
      (record {
        id64 = λ k. t.id64 (suc k);
        run32 = λ k. t.run32 (suc k);
        len32 = λ k. t.len32 (suc k);
        off64 = λ k. t.off64 (suc k);
      }),
)

module _ (P : Entry → Type 0) where
  pub all_take : (k : ℕ) (es : List Entry) → All P es → All P (take k es)
  all_take zero es a = tt
  all_take (suc k) [] a = tt
  all_take (suc k) (e ∷ es) a = (a.0, all_take k es a.1)

  pub all_drop : (k : ℕ) (es : List Entry) → All P es → All P (drop k es)
  all_drop zero es a = a
  all_drop (suc k) [] a = tt
  all_drop (suc k) (e ∷ es) a = all_drop k es a.1

  pub all-part : (from to : ℕ) (es : List Entry) → All P es → All P (part from to es)
  unfolding part
  all-part from to es a = all_drop from (take to es) (all_take to es a)
