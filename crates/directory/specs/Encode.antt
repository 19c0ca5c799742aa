-- A directory's bytes, from its entries. Assumes nothing.
use Rattle.std.specs.Prelude.{ℕ, suc, ◌+◌, ◌-◌, ◌^◌, ◌≤◌, ◌<◌, cond, List, [], ◌∷◌, ◌++◌, map, eqb, length}
use Rattle.std.proofs.Math.Option.{Option, none, some}
use Rattle.varint.specs.Varint.{Width, wide, narrow, put}
use Rattle.directory.specs.Entries.{Entry}

-- numbers in their shortest forms
abbrev pub put_all : Width → List ℕ → List ℕ
put_all w [] = []
put_all w (x ∷ xs) = put w x ++ put_all w xs

-- each id's difference from the one before
abbrev pub differences : ℕ → List Entry → List ℕ
differences prev [] = []
differences prev (e ∷ es) = (e.id - prev) ∷ differences e.id es

-- 0 exactly if there is an entry before and it ends at the offset, else one more than the offset
abbrev pub code_of : Option ℕ → ℕ → ℕ
code_of none o = suc o
code_of (some x) o = cond (eqb x o) 0 (suc o)

abbrev pub codes : Option ℕ → List Entry → List ℕ
codes p [] = []
codes p (e ∷ es) = code_of p e.off ∷ codes (some (e.off + e.len)) es

unfoldable pub encode : List Entry → List ℕ
encode es =
    put wide (length es)
    ++ (put_all wide (differences 0 es) ++ (put_all narrow (map (λ e. e.run) es) ++ (put_all narrow (map (λ e. e.len) es) ++ put_all wide (codes none es))))

-- what the columns can carry: numbers that fit, ids that do not fall
pub record Fits (prev : ℕ) (p : Option ℕ) (e : Entry) : Type 0 where
  pub rises : prev ≤ e.id
  pub id64 : e.id < 2 ^ 64
  pub run32 : e.run < 2 ^ 32
  pub len32 : e.len < 2 ^ 32
  pub off64 : e.off < 2 ^ 64
  pub code64 : code_of p e.off < 2 ^ 64

abbrev pub Fitting : ℕ → Option ℕ → List Entry → Type 0
Fitting prev p [] = Unit {0}
Fitting prev p (e ∷ es) = Fits prev p e × Fitting e.id (some (e.off + e.len)) es
