-- What the writer's functions answer, in the words of the definitions. Assumes nothing.
use Rattle.std.specs.Prelude.{ℕ, ◌≡◌, Result, List, ◌++◌, leb, drop, length}
use Rattle.refusal.specs.Out.{Out, ok, ◌>>=◌, afterwards, need}
use Rattle.refusal.specs.Said.{said}
use Rattle.refusal.specs.declared.Refusal.{Refusal}
use Rattle.directory.specs.Entries.{Entry}
use Rattle.acceptance.specs.Accept.{accepting}
use Rattle.acceptance.specs.declared.Counts.{Counts}
use Rattle.writer.specs.Write.{encoding}
use Rattle.writer.specs.Build.{Directories, build}
use Rattle.writer.specs.declared.Sizes.{Sizes}

abbrev pub said_length : Result ℕ Refusal → Out ℕ
said_length = said (λ n. n)

abbrev pub said_sized : Result Sizes Refusal → Out Sizes
said_sized = said (λ s. s)

abbrev pub said_built : Result (Sizes × Counts) Refusal → Out (Sizes × Counts)
said_built = said (λ b. b)

-- bytes at the start of a buffer that has room for them, and behind them what it held
abbrev pub laid : List ℕ → List ℕ → List ℕ
laid bytes old = bytes ++ drop (length bytes) old

-- writing a directory into a buffer of so many bytes: 15 last
unfoldable pub writing : ℕ → List ℕ → List ℕ → List ℕ → List ℕ → ℕ → Out (List ℕ)
writing n ids runs lens offs room = encoding n ids runs lens offs >>= λ bytes. need (leb (length bytes) room) 15 (ok bytes)

abbrev pub length_of : Out (List ℕ) → Out ℕ
length_of x = x >>= λ bytes. ok (length bytes)

abbrev pub sizes_of : Directories → Sizes
sizes_of d = record { root = length d.root; leaves = length d.leaves }

abbrev pub sizes_in : Out (List Entry) → Out Sizes
sizes_in x = x >>= λ es. ok (sizes_of (build es))

-- entries whose root and leaves fit buffers of so many bytes: 15 exactly if one is too short
unfoldable pub fitted : List Entry → ℕ → ℕ → Out (List Entry)
fitted es root_room leaf_room = need (leb (length (build es).root) root_room) 15 (need (leb (length (build es).leaves) leaf_room) 15 (ok es))

-- root and leaves into two buffers: 15 last
unfoldable pub building : ℕ → List ℕ → List ℕ → List ℕ → List ℕ → ℕ → ℕ → ℕ → Out (List Entry)
building n ids runs lens offs size root_room leaf_room = accepting n ids runs lens offs size >>= λ es. fitted es root_room leaf_room

-- an answer and the two buffers afterwards, where x says which entries are built, if any
pub record BuiltFrom (x : Out (List Entry)) (counts : List Entry → Counts) (r : Result (Sizes × Counts) Refusal) (root leaves root' leaves' : List ℕ) : Type 0 where
  pub answer : said_built r ≡ x >>= λ es. ok (sizes_of (build es), counts es)
  pub in_root : root' ≡ afterwards x root (λ es. laid (build es).root root)
  pub in_leaves : leaves' ≡ afterwards x leaves (λ es. laid (build es).leaves leaves)
