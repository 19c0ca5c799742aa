-- A column, over its step: read at a place, and read back after it was put. Assumes nothing.
use Prim.Native.Nat.{ℕ, zero, suc, ◌<◌}
use mathlib.Core.Path.{◌≡◌, refl, ◌∙◌}
use mathlib.Core.List.{List, [], ◌∷◌, ◌++◌, append_assoc}
use native.Mathlib.Omega.{arith}
use lib.ListN.{drop, length}
use Rattle.refusal.specs.Out.{Out, ok, ◌>>=◌}
use Rattle.refusal.proofs.OutLaws.{bind_assoc, bind-cong}
use Rattle.varint.specs.Varint.{Width, limit, read_at}
use Rattle.varint.proofs.Reading.{bridge}
use Rattle.varint.proofs.Round.{read-put}
use Rattle.directory.specs.Columns.{column, column_at}
use Rattle.directory.specs.Encode.{put_all}

module _ {S : Type 0} (w : Width) (step : S → ℕ → Out (ℕ × S)) where
  -- reading on from the bytes left, and from the place after the column
  pub column-bridge : {B : Type 0} (l : List ℕ) (n : ℕ) (s : S) (at : ℕ) (F : List ℕ × List ℕ → Out B)
      → column w step n s (drop at l) >>= F ≡ column_at w step n s l at >>= λ (xs, p). F (xs, drop p l)
  column-bridge l zero s at F = refl
  column-bridge l (suc n) s at F =
      simp bind_assoc
      (bridge w l at _
      ∙ bind-cong (read_at w l at) _ _ (λ a e. bind-cong (step s a.0) _ _ (λ b f. column-bridge l n b.1 a.1 (λ (xs, q). F (b.0 ∷ xs, q)))))

  -- the codes that the steps turn into the values
  abbrev pub Turned : S → List ℕ → List ℕ → Type 0
  Turned s [] [] = Unit {0}
  Turned s [] (x ∷ xs) = ⊥
  Turned s (c ∷ cs) [] = ⊥
  Turned s (c ∷ cs) (x ∷ xs) = (c < limit w) × ((s' : S) × (step s c ≡ ok (x, s')) × Turned s' cs xs)

  pub column-back : (n : ℕ) (s : S) (cs xs rest : List ℕ) → length xs ≡ n → Turned s cs xs → column w step n s (put_all w cs ++ rest) ≡ ok (xs, rest)
  column-back zero s [] [] rest e t = refl
  column-back (suc n) s [] [] rest e t = absurd (omega arith)
  column-back n s [] (x ∷ xs) rest e t = absurd t
  column-back n s (c ∷ cs) [] rest e t = absurd t
  column-back zero s (c ∷ cs) (x ∷ xs) rest e t = absurd (omega arith)
  column-back (suc n) s (c ∷ cs) (x ∷ xs) rest e t =
      rw (append_assoc, read-put w c (put_all w cs ++ rest) t.0, t.1.1, column-back n t.1.0 cs xs rest (omega arith) t.1.2)
