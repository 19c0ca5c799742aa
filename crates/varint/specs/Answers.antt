-- What the functions on varints answer, in the words of the definitions. Assumes nothing.
use Rattle.std.specs.Prelude.{ℕ, Result, ◌+◌, List, leb, length}
use Rattle.std.proofs.lemmas.List.Edits.{sets}
use Rattle.refusal.specs.Out.{Out, ok, need, afterwards}
use Rattle.refusal.specs.Said.{said}
use Rattle.refusal.specs.declared.Refusal.{Refusal}
use Rattle.varint.specs.Varint.{wide, put}
use Rattle.varint.specs.declared.Cursor.{Cursor}

-- the number, and the place after it
abbrev pub said_u64 : Result (ℕ × Cursor) Refusal → Out (ℕ × ℕ)
said_u64 = said (λ (n, c). (n, c.at))

abbrev pub said_u32 : Result (ℕ × Cursor) Refusal → Out (ℕ × ℕ)
said_u32 = said (λ (n, c). (n, c.at))

-- the place after what was written
abbrev pub said_written : Result Cursor Refusal → Out ℕ
said_written = said (λ c. c.at)

-- writing x at a place of a buffer: 15 where the shortest form does not fit, and then nothing is written
unfoldable pub writing : List ℕ → ℕ → ℕ → Out ℕ
writing l at x = need (leb (at + length (put wide x)) (length l)) 15 (ok (at + length (put wide x)))

unfoldable pub written : List ℕ → ℕ → ℕ → List ℕ
written l at x = afterwards (writing l at x) l (λ e. sets l at (put wide x))
