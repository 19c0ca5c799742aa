-- What the publisher's functions answer, in the words of the definitions. Assumes nothing.
use Rattle.std.specs.Prelude.{ℕ, List, Result, length}
use Rattle.refusal.specs.Out.{Out}
use Rattle.refusal.specs.Said.{said}
use Rattle.refusal.specs.declared.Refusal.{Refusal}
use Rattle.publisher.specs.declared.Parts.{Parts}

-- how many stores
abbrev pub said_total : Result ℕ Refusal → Out ℕ
said_total = said (λ n. n)

-- the new position
abbrev pub said_published : Result ℕ Refusal → Out ℕ
said_published = said (λ p. p)

-- f of the bytes of root, metadata, data and leaves
abbrev pub over_parts {ℓ} : {A : Type ℓ} → Parts → (List ℕ → List ℕ → List ℕ → List ℕ → A) → A
over_parts x f = f x.root.now x.metadata.now x.tiles.now x.leaves.now

-- f of how many bytes they have
abbrev pub over_lengths {ℓ} : {A : Type ℓ} → Parts → (ℕ → ℕ → ℕ → ℕ → A) → A
over_lengths x f = over_parts x (λ r m d l. f (length r) (length m) (length d) (length l))
