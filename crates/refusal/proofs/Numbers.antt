-- A refusal is known by its number, and an answer by what it says. Assumes nothing.
use Prim.Native.Nat.{ℕ, zero, suc, ◌-◌}
use mathlib.Core.Path.{◌≡◌, refl, ap, sym, ◌∙◌}
use mathlib.Core.List.{List, [], ◌∷◌}
use Rattle.std.specs.Prelude.{Result, Ok, Err}
use Rattle.refusal.specs.Out.{Out, ok, bad}
use Rattle.refusal.specs.Number.{number_of}
use Rattle.refusal.specs.Said.{said}
use Rattle.refusal.specs.declared.Refusal.{Refusal}
use Rattle.refusal.specs.declared.Refusal.TheVariants as r

-- what can be undone is one-to-one
pub one-to-one : {A B : Type 0} (f : A → B) (g : B → A) → ((a : A) → g (f a) ≡ a) → (a b : A) → f a ≡ f b → a ≡ b
one-to-one f g undone a b e = sym (undone a) ∙ ap g e ∙ undone b

-- the refusal at a place of a list, and some refusal past its end
abbrev at : List Refusal → ℕ → Refusal
at [] k = r.InvalidHeader
at (x ∷ xs) zero = x
at (x ∷ xs) (suc k) = at xs k

-- the refusal that has a number: `number_of` undone
abbrev pub refusal_of : ℕ → Refusal
refusal_of n =
    at
    (r.InvalidHeader
    ∷ r.InvalidMagicNumber
    ∷ r.UnsupportedPmTilesVersion
    ∷ r.InvalidCompression
    ∷ r.InvalidTileType
    ∷ r.InvalidCoordinate
    ∷ r.InvalidTileId
    ∷ r.VarintCutOff
    ∷ r.VarintTooLarge
    ∷ r.InvalidEntry
    ∷ r.SumTooLarge
    ∷ r.EmptyEntry
    ∷ r.EntryIdTooLarge
    ∷ r.EntriesOutOfOrder
    ∷ r.RoomTooShort
    ∷ r.CompressedDirectories
    ∷ r.RangeOutside
    ∷ r.TooDeep
    ∷ r.TooManyEntries
    ∷ [])
    (n - 1)

pub numbered : (x : Refusal) → refusal_of (number_of x) ≡ x
numbered r.InvalidHeader = refl
numbered r.InvalidMagicNumber = refl
numbered r.UnsupportedPmTilesVersion = refl
numbered r.InvalidCompression = refl
numbered r.InvalidTileType = refl
numbered r.InvalidCoordinate = refl
numbered r.InvalidTileId = refl
numbered r.VarintCutOff = refl
numbered r.VarintTooLarge = refl
numbered r.InvalidEntry = refl
numbered r.SumTooLarge = refl
numbered r.EmptyEntry = refl
numbered r.EntryIdTooLarge = refl
numbered r.EntriesOutOfOrder = refl
numbered r.RoomTooShort = refl
numbered r.CompressedDirectories = refl
numbered r.RangeOutside = refl
numbered r.TooDeep = refl
numbered r.TooManyEntries = refl

pub one_number : (a b : Refusal) → number_of a ≡ number_of b → a ≡ b
one_number = one-to-one number_of refusal_of numbered

-- an answer whose value can be told from how it is seen can be told from what it says
pub one-said : {A B : Type 0} (f : A → B) (g : B → A) → ((a : A) → g (f a) ≡ a) → (a b : Result A Refusal) → said f a ≡ said f b → a ≡ b
one-said {A} {B} f g undone = one-to-one (said f) told back
  where
    told : Out B → Result A Refusal
    told (ok b) = Ok (g b)
    told (bad n) = Err (refusal_of n)

    back : (a : Result A Refusal) → told (said f a) ≡ a
    back (Ok a) = ap Ok (undone a)
    back (Err r) = ap Err (numbered r)
