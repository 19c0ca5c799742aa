-- What the stores hold after a reading. Assumes nothing.
use Prim.Native.Nat.{ℕ, ◌≤◌}
use mathlib.Core.Path.{◌≡◌}
use mathlib.Core.List.{List, map}
use native.Mathlib.Omega.{arith}
use lib.ListN.{drop, length, take, take-append-drop}
use mathlib.Core.Bool.{false}
use Rattle.std.specs.Prelude.{Result, Ok, Err}
use Rattle.std.specs.Result.{is_err}
use Rattle.refusal.specs.Out.{Out, ok}
use Rattle.refusal.specs.declared.Refusal.{Refusal}
use Rattle.directory.specs.Entries.{Entry}
use Rattle.directory.specs.Search.{shortest}
use Rattle.directory.specs.Answers.{kept}
use Rattle.directory.specs.Stores.{Filling, ReadInto}
use Rattle.directory.proofs.Slots.{fields, stored-length}

module _ {D : Out (List Entry × ℕ)} where
  -- a success: the slots of a field, and those that were kept
  laid : {es : List Entry} {u n : ℕ} (field : Entry → ℕ) (old new : List ℕ) → D ≡ ok (es, u) → length es ≡ n → map field es ≡ take n new → drop n new ≡ drop n old
      → new ≡ kept D field old
  laid {n = n} field old new d e f t = rw (d, e, f, ← t, take-append-drop n new)

  pub as_read : (r : Result (ℕ × ℕ) Refusal) (ids ids' runs runs' lens lens' offs offs' : List ℕ) → is_err r ≡ false → Filling r D ids ids' runs runs' lens lens' offs offs'
      → length ids' ≡ length ids → length runs' ≡ length runs → length lens' ≡ length lens → length offs' ≡ length offs
      → ReadInto D r ids ids' runs runs' lens lens' offs offs'
  as_read (Ok (n, u)) ids ids' runs runs' lens lens' offs offs' t f a b l o =
      let h : n ≤ shortest ids' runs' lens' offs' = omega (arith, f.0) in
      let m = stored-length n ids' runs' lens' offs' h in
      let s = fields n ids' runs' lens' offs' h in
      record {
        answer = rw (f.1, m);
        ids-kept = laid (λ e. e.id) ids ids' f.1 m s.ids f.2;
        runs-kept = laid (λ e. e.run) runs runs' f.1 m s.runs f.3;
        lens-kept = laid (λ e. e.len) lens lens' f.1 m s.lens f.4;
        offs-kept = laid (λ e. e.off) offs offs' f.1 m s.offs f.5;
      }
  as_read (Err q) ids ids' runs runs' lens lens' offs offs' t f a b l o = let z : ⊥ = cc in absurd z
