-- The promises of writing and of reading, joined: what was written into a buffer is read back from it. Assumes nothing.
use Prim.Native.Nat.{ℕ, ◌≤◌}
use mathlib.Core.Path.{◌≡◌, ap, ◌∙◌}
use mathlib.Core.List.{List, ◌++◌}
use mathlib.Core.Option.{some}
use borrow.Author.Tests.{le-leb}
use lib.Dec.{leb}
use lib.ListN.{drop, length, take}
use Rattle.refusal.specs.Out.{ok, need}
use Rattle.refusal.proofs.OutLaws.{bind_ok, need-ok, ok-is}
use Rattle.directory.specs.Answers.{counted, kept, said_read}
use Rattle.directory.specs.Search.{shortest, stored}
use Rattle.directory.specs.Stores.{ReadInto, reading}
use Rattle.std.specs.Prelude.{Result}
use Rattle.refusal.specs.declared.Refusal.{Refusal}
use Rattle.directory.proofs.Slots.{fields, stored-length}
use Rattle.writer.specs.Stock.{Typed}
use Rattle.writer.specs.Answers.{laid, writing}
use Rattle.writer.specs.Write.{encoding}
use Rattle.directory.proofs.Counting.{counting-sound}
use Rattle.writer.proofs.Written.{written_read}

-- four stores whose first n slots were read from where they had been written
pub record Restored (n : ℕ) (a b c d ids ids' runs runs' lens lens' offs offs' : List ℕ) : Type 0 where
  pub ids-back : ids' ≡ take n a ++ drop n ids
  pub runs-back : runs' ≡ take n b ++ drop n runs
  pub lens-back : lens' ≡ take n c ++ drop n lens
  pub offs-back : offs' ≡ take n d ++ drop n offs

module _ (n : ℕ) (a b c d : List ℕ) (t : Typed a b c d) (old bytes : List ℕ) (w : writing n a b c d (length old) ≡ ok bytes) where
  encoded : encoding n a b c d ≡ ok bytes
  unfolding writing
  encoded =
      let k = bind_ok (encoding n a b c d) (λ bytes. need (leb (length bytes) (length old)) 15 (ok bytes)) bytes w in
      k.1 ∙ ap ok (ok-is (need-ok (leb (length k.0) (length old)) 15 (ok k.0) bytes k.2).1)

  module _ (ids runs lens offs : List ℕ) (h : n ≤ shortest ids runs lens offs) where
    -- the buffer's bytes are the directory of the entries that were written
    pub read_back : reading (laid bytes old) ids runs lens offs ≡ ok (stored n a b c d, length bytes)
    read_back = written_read n a b c d t (some (shortest ids runs lens offs)) bytes (drop (length bytes) old) (le-leb n _ h) encoded

    -- and reading them into stores restores what the writer's stores hold
    pub restored : (r : Result (ℕ × ℕ) Refusal) (ids' runs' lens' offs' : List ℕ) → ReadInto (reading (laid bytes old) ids runs lens offs) r ids ids' runs runs' lens lens' offs offs'
        → (said_read r ≡ ok (n, length bytes)) × Restored n a b c d ids ids' runs runs' lens lens' offs offs'
    unfolding encoding
    restored r ids' runs' lens' offs' f =
        let s = (counting-sound n a b c d _ bytes encoded).1 in
        let l = stored-length n a b c d s in
        let g = fields n a b c d s in (
          f.answer ∙ ap counted read_back ∙ (rw l),
          record {
            ids-back = f.ids-kept ∙ ap (λ x. kept x (λ e. e.id) ids) read_back ∙ (rw (g.ids, l));
            runs-back = f.runs-kept ∙ ap (λ x. kept x (λ e. e.run) runs) read_back ∙ (rw (g.runs, l));
            lens-back = f.lens-kept ∙ ap (λ x. kept x (λ e. e.len) lens) read_back ∙ (rw (g.lens, l));
            offs-back = f.offs-kept ∙ ap (λ x. kept x (λ e. e.off) offs) read_back ∙ (rw (g.offs, l));
          },
        )
