-- A directory's bytes: five columns of varints. Assumes nothing.
use Rattle.std.specs.Prelude.{ℕ, zero, suc, ◌+◌, ◌^◌, Bool, true, List, [], ◌∷◌, leb, ltb, get_or, drop}
use Rattle.std.proofs.Math.Option.{Option, none, some}
use Rattle.refusal.specs.Out.{Out, ok, bad, ◌>>=◌, need}
use Rattle.varint.specs.Varint.{Width, wide, narrow, read, read_at}
use Rattle.directory.specs.Entries.{Entry, entry, max_count}

-- ---- a column: n numbers of a width. A step turns each into a value, and hands on what the next one needs.

-- the values, and the bytes after them
abbrev pub column : {S : Type 0} → Width → (S → ℕ → Out (ℕ × S)) → ℕ → S → List ℕ → Out (List ℕ × List ℕ)
column w step zero s bs = ok ([], bs)
column w step (suc n) s bs =
    read w bs >>= λ (v, r). step s v >>= λ (x, s'). column w step n s' r >>= λ (xs, q). ok (x ∷ xs, q)

-- the same at a place of a list: the values, and the place after them
abbrev pub column_at : {S : Type 0} → Width → (S → ℕ → Out (ℕ × S)) → ℕ → S → List ℕ → ℕ → Out (List ℕ × ℕ)
column_at w step zero s l at = ok ([], at)
column_at w step (suc n) s l at =
    read_at w l at >>= λ (v, p). step s v >>= λ (x, s'). column_at w step n s' l p >>= λ (xs, q). ok (x ∷ xs, q)

-- ---- the steps

-- an id is the one before and a difference
abbrev pub id_step : ℕ → ℕ → Out (ℕ × ℕ)
id_step prev d = need (ltb (prev + d) (2 ^ 64)) 11 (ok (prev + d, prev + d))

-- a run, or a length, is the number itself
abbrev pub plain_step : Unit {0} → ℕ → Out (ℕ × Unit {0})
plain_step u x = ok (x, u)

-- what an offset's code stands for, where the entry before ends at some place, or there is none before
abbrev pub offset_of : Option ℕ → ℕ → Out ℕ
offset_of e (suc c) = ok c
offset_of none zero = bad 10
offset_of (some x) zero = need (ltb x (2 ^ 64)) 11 (ok x)

-- an offset: where the entry before ends, and the lengths that are left
abbrev pub offset_step : Option ℕ × List ℕ → ℕ → Out (ℕ × (Option ℕ × List ℕ))
offset_step (e, ls) c = offset_of e c >>= λ o. ok (o, (some (o + get_or ls 0 0), drop 1 ls))

-- ---- the columns of a directory

abbrev pub entries : List ℕ → List ℕ → List ℕ → List ℕ → List Entry
entries [] rs ls os = []
entries (i ∷ is) [] ls os = []
entries (i ∷ is) (r ∷ rs) [] os = []
entries (i ∷ is) (r ∷ rs) (l ∷ ls) [] = []
entries (i ∷ is) (r ∷ rs) (l ∷ ls) (o ∷ os) = entry i r l o ∷ entries is rs ls os

-- whether a reader has room for n entries; one that keeps none always has
abbrev pub roomy : Option ℕ → ℕ → Bool
roomy none n = true
roomy (some k) n = leb n k

-- the entries, and the bytes after them: 19 and 15 before any column, then the first fault in the order of the bytes
unfoldable pub columns : Option ℕ → List ℕ → Out (List Entry × List ℕ)
columns room bs =
    read wide bs >>= λ (n, r₀).
    need (leb n max_count) 19
    (need (roomy room n) 15
    (column wide id_step n 0 r₀ >>= λ (ids, r₁).
    column narrow plain_step n tt r₁ >>= λ (runs, r₂).
    column narrow plain_step n tt r₂ >>= λ (lens, r₃).
    column wide offset_step n (none, lens) r₃ >>= λ (offs, r₄). ok (entries ids runs lens offs, r₄)))
