-- Reading a directory's bytes gives its entries back. Assumes nothing.
use Prim.Native.Nat.{ℕ, suc, ◌+◌, ◌-◌, ◌^◌, ◌≤◌, ◌<◌}
use mathlib.Core.Path.{◌≡◌, refl, ap}
use mathlib.Core.Bool.{Bool, true, false}
use mathlib.Core.List.{List, [], ◌∷◌, ◌++◌, map, append_assoc}
use mathlib.Core.Option.{Option, none, some}
use native.Mathlib.Omega.{arith}
use lib.Dec.{eqb}
use lib.ListN.{length, length-append}
use borrow.Author.Tests.{eqb-true, le-leb, lt-ltb}
use Rattle.refusal.specs.Out.{Out, ok}
use Rattle.varint.specs.Varint.{narrow, wide}
use Rattle.varint.proofs.Round.{read-put}
use Rattle.directory.specs.Entries.{Entry, Valid, max_count}
use Rattle.directory.specs.Columns.{columns, entries, id_step, offset_of, offset_step, plain_step, roomy}
use Rattle.directory.specs.Encode.{Fits, Fitting, code_of, codes, differences, encode}
use Rattle.directory.specs.Decode.{decode, ended}
use Rattle.directory.proofs.Checks.{check-valid}
use Rattle.directory.proofs.Column.{Turned, column-back}

-- the numbers of the entries, one column each
abbrev pub ids : List Entry → List ℕ
ids es = map (λ e. e.id) es

abbrev pub runs : List Entry → List ℕ
runs es = map (λ e. e.run) es

abbrev pub lens : List Entry → List ℕ
lens es = map (λ e. e.len) es

abbrev pub offs : List Entry → List ℕ
offs es = map (λ e. e.off) es

pub entries-map : (es : List Entry) → entries (ids es) (runs es) (lens es) (offs es) ≡ es
entries-map [] = refl
entries-map (e ∷ es) = ap {B = List Entry} (λ t. e ∷ t) (entries-map es)

pub length-map : (f : Entry → ℕ) (es : List Entry) → length (map f es) ≡ length es
length-map f [] = refl
length-map f (e ∷ es) = ap (λ (n : ℕ). suc n) (length-map f es)

ids-turned : (prev : ℕ) (p : Option ℕ) (es : List Entry) → Fitting prev p es → Turned wide id_step prev (differences prev es) (ids es)
ids-turned prev p [] f = tt
ids-turned prev p (e ∷ es) f =
    let same : prev + (e.id - prev) ≡ e.id = omega (arith, f.0.rises) in
    (omega (arith, f.0.id64), (e.id, rw (same, lt-ltb e.id (2 ^ 64) f.0.id64), ids-turned e.id (some (e.off + e.len)) es f.1))

plain-turned : (field : Entry → ℕ) → ((prev : ℕ) (p : Option ℕ) (e : Entry) → Fits prev p e → field e < 2 ^ 32)
    → (prev : ℕ) (p : Option ℕ) (es : List Entry) → Fitting prev p es → Turned narrow plain_step tt (map field es) (map field es)
plain-turned field fits prev p [] f = tt
plain-turned field fits prev p (e ∷ es) f =
    (fits prev p e f.0, (tt, refl, plain-turned field fits e.id (some (e.off + e.len)) es f.1))

offset-code : (p : Option ℕ) (o : ℕ) → o < 2 ^ 64 → offset_of p (code_of p o) ≡ ok o
offset-code none o h = refl
offset-code (some x) o h = go (eqb x o) refl
  where
    go : (b : Bool) → eqb x o ≡ b → offset_of (some x) (code_of (some x) o) ≡ ok o
    go true e = let same : x ≡ o = eqb-true x o e in rw e (rw same (rw (lt-ltb o (2 ^ 64) h)))
    go false e = rw e

codes-turned : (prev : ℕ) (p : Option ℕ) (es : List Entry) → Fitting prev p es → Turned wide offset_step (p, lens es) (codes p es) (offs es)
codes-turned prev p [] f = tt
codes-turned prev p (e ∷ es) f =
    (f.0.code64, ((some (e.off + e.len), lens es), rw (offset-code p e.off f.0.off64), codes-turned e.id (some (e.off + e.len)) es f.1))

-- the columns of what was encoded are the entries, whatever follows
pub columns-encode : (room : Option ℕ) (es : List Entry) (rest : List ℕ) → length es ≤ max_count → roomy room (length es) ≡ true → Fitting 0 none es
    → columns room (encode es ++ rest) ≡ ok (es, rest)
unfolding columns encode
columns-encode room es rest n r f =
    rw (
      append_assoc,
      read-put wide (length es) _ (omega arith),
      le-leb (length es) max_count n,
      r,
      append_assoc,
      column-back wide id_step (length es) 0 (differences 0 es) (ids es) _ (length-map _ es) (ids-turned 0 none es f),
      append_assoc,
      column-back narrow plain_step (length es) tt (runs es) (runs es) _ (length-map _ es) (plain-turned _ (λ _ _ _ g. g.run32) 0 none es f),
      append_assoc,
      column-back narrow plain_step (length es) tt (lens es) (lens es) _ (length-map _ es) (plain-turned _ (λ _ _ _ g. g.len32) 0 none es f),
      column-back wide offset_step (length es) (none, lens es) (codes none es) (offs es) rest (length-map _ es) (codes-turned 0 none es f),
      entries-map es,
    )

pub decode-encode : (room : Option ℕ) (es : List Entry) (rest : List ℕ) → length es ≤ max_count → roomy room (length es) ≡ true → Fitting 0 none es → Valid 0 es
    → decode room (encode es ++ rest) ≡ ok (es, length (encode es))
unfolding decode ended
decode-encode room es rest n r f v =
    rw (columns-encode room es rest n r f, check-valid 0 es _ v)
    (ap {B = Out (List Entry × ℕ)} (λ k. ok (es, k)) (simp length-append (omega arith)))
