-- What an exported function answers: a status, and values in lent slots. Assumes nothing.
use Rattle.std.specs.Prelude.{ℕ, Option, None, Some, List, [], ◌∷◌, ◌≡◌, leb, length}
use Rattle.std.proofs.Math.Option.{Option as Maybe, none, some}
use Rattle.std.proofs.lemmas.List.Edits.{sets}
use Rattle.refusal.specs.Out.{Out, ok, bad, ◌>>=◌, afterwards, need}
use Rattle.directory.specs.Entries.{Entry}
use Rattle.directory.specs.Answers.{kept}
use Rattle.directory.specs.Search.{Hit, absent, leaf, tile}
use Rattle.acceptance.specs.Accept.{addressed}
use Rattle.writer.specs.Build.{build}
use Rattle.writer.specs.Answers.{laid}

-- 0 for a value, else the refusal's number
abbrev pub status : {A : Type 0} → Out A → ℕ
status (ok a) = 0
status (bad n) = n

-- a call that fills k slots: 15 where fewer are lent, before all else
abbrev pub within : {A : Type 0} → ℕ → List ℕ → Out A → Out A
within k slots x = need (leb k (length slots)) 15 x

-- the slots afterwards: the values in the first of them; a refusal changes none
abbrev pub filled : {A : Type 0} → Out A → (A → List ℕ) → List ℕ → List ℕ
filled x values slots = afterwards x slots (λ a. sets slots 0 (values a))

-- both at once
pub record Answered {A : Type 0} (x : Out A) (values : A → List ℕ) (slots : List ℕ) (answer : ℕ) (slots' : List ℕ) : Type 0 where
  pub says : answer ≡ status x
  pub fills : slots' ≡ filled x values slots

-- ---- a search, which may end with nothing

-- what is there, in the definitions' words
abbrev pub maybe_of : {A : Type 0} → Option A → Maybe A
maybe_of (Some a) = some a
maybe_of None = none

-- 0 for what was found, 255 for nothing, else the refusal's number
abbrev pub sought : {A : Type 0} → Out (Maybe A) → ℕ
sought (ok (some a)) = 0
sought (ok none) = 255
sought (bad n) = n

-- the slots afterwards: only what was found changes any
abbrev pub found : {A : Type 0} → Out (Maybe A) → (A → List ℕ) → List ℕ → List ℕ
found (ok (some a)) values slots = sets slots 0 (values a)
found (ok none) values slots = slots
found (bad n) values slots = slots

pub record Sought {A : Type 0} (x : Out (Maybe A)) (values : A → List ℕ) (slots : List ℕ) (answer : ℕ) (slots' : List ℕ) : Type 0 where
  pub says : answer ≡ sought x
  pub fills : slots' ≡ found x values slots

-- what a search in a directory found: a tile's entry, or a pointer
abbrev pub entry_found : Hit → Maybe Entry
entry_found absent = none
entry_found (tile e) = some e
entry_found (leaf e) = some e

abbrev pub searched : Out Hit → Out (Maybe Entry)
searched x = x >>= λ h. ok (entry_found h)

abbrev pub entry_values : Entry → List ℕ
entry_values e = e.id ∷ e.run ∷ e.len ∷ e.off ∷ []

-- ---- a directory read into stores: its answer, and each store before it and after it

pub record DirectoryTold (D : Out (List Entry × ℕ)) (answer : ℕ) (ids ids' runs runs' lens lens' offs offs' out out' : List ℕ) : Type 0 where
  pub says : answer ≡ status D
  pub ids-kept : ids' ≡ kept D (λ e. e.id) ids
  pub runs-kept : runs' ≡ kept D (λ e. e.run) runs
  pub lens-kept : lens' ≡ kept D (λ e. e.len) lens
  pub offs-kept : offs' ≡ kept D (λ e. e.off) offs
  pub fills : out' ≡ filled D (λ (es, u). length es ∷ u ∷ []) out

-- ---- directories made from stores: the answer, and each buffer before it and after it

pub record WriteTold (x : Out (List ℕ)) (answer : ℕ) (bytes bytes' out out' : List ℕ) : Type 0 where
  pub says : answer ≡ status x
  pub written : bytes' ≡ afterwards x bytes (λ b. laid b bytes)
  pub fills : out' ≡ filled x (λ b. length b ∷ []) out

pub record BuildTold (x : Out (List Entry)) (answer : ℕ) (root root' leaves leaves' out out' : List ℕ) : Type 0 where
  pub says : answer ≡ status x
  pub in_root : root' ≡ afterwards x root (λ es. laid (build es).root root)
  pub in_leaves : leaves' ≡ afterwards x leaves (λ es. laid (build es).leaves leaves)
  pub fills : out' ≡ filled x (λ es. length (build es).root ∷ length (build es).leaves ∷ length es ∷ addressed es ∷ []) out
