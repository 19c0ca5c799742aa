-- Reading a directory at places of its bytes: what each part tells of the whole. Assumes nothing.
use Prim.Native.Nat.{ℕ, zero, suc, ◌-◌, ◌≤◌}
use mathlib.Core.Path.{◌≡◌, ap, ◌∙◌}
use mathlib.Core.List.{List, ◌∷◌}
use mathlib.Core.Option.{Option, none}
use native.Mathlib.Omega.{arith}
use lib.Dec.{leb}
use lib.ListN.{drop, length, length-drop}
use Rattle.refusal.specs.Out.{Out, ok, ◌>>=◌, need}
use Rattle.refusal.proofs.OutLaws.{bind_assoc, bind-cong, bind_ok, need-bind, ok-is}
use Rattle.varint.specs.Varint.{Width, narrow, read_at, wide}
use Rattle.varint.proofs.Reading.{bridge, place_after}
use Rattle.directory.specs.Entries.{max_count}
use Rattle.directory.specs.Columns.{column_at, columns, id_step, offset_step, plain_step, roomy}
use Rattle.directory.specs.Decode.{decode, ended}
use Rattle.directory.specs.Stores.{entries_at}
use Rattle.directory.proofs.Column.{column-bridge}
use Rattle.directory.proofs.Counting.{counting-sound, counting-then}
use Rattle.std.proofs.lemmas.List.{take_all, take_at, drop_at, length-take-le}
use Rattle.directory.proofs.Slots.{check-all}

-- a column that begins in the list ends in it
inside : {S : Type 0} (w : Width) (step : S → ℕ → Out (ℕ × S)) (n : ℕ) (s : S) (l : List ℕ) (at : ℕ) (a : List ℕ × ℕ)
    → column_at w step n s l at ≡ ok a → at ≤ length l → a.1 ≤ length l
inside w step zero s l at a e h = rw (← ok-is e) h
inside w step (suc n) s l at a e h =
    let r = bind_ok (read_at w l at) _ a e in
    let t = bind_ok (step s r.0.0) _ a r.2 in
    let c = bind_ok (column_at w step n t.0.1 l r.0.1) _ a t.2 in
    rw (← ok-is {a = (t.0.0 ∷ c.0.0, c.0.1)} c.2) (inside w step n t.0.1 l r.0.1 c.0 c.1 (place_after w l at r.1).1)

pub decode-at : (room : Option ℕ) (l : List ℕ)
    → decode room l ≡ read_at wide l 0 >>= λ (n, at). need (leb n max_count) 19 (need (roomy room n) 15 (entries_at n l at))
unfolding columns decode ended entries_at
decode-at room l =
    simp (bind_assoc, need-bind)
    (bridge wide l 0 _
    ∙ bind-cong (read_at wide l 0) _ _
    (λ (n, at) e.
    ap (λ x. need (leb n max_count) 19 (need (roomy room n) 15 x))
    (column-bridge wide id_step l n 0 at _
    ∙ bind-cong (column_at wide id_step n 0 l at) _ _
    (λ (ids, p₁) e₁.
    column-bridge narrow plain_step l n tt p₁ _
    ∙ bind-cong (column_at narrow plain_step n tt l p₁) _ _
    (λ (runs, p₂) e₂.
    column-bridge narrow plain_step l n tt p₂ _
    ∙ bind-cong (column_at narrow plain_step n tt l p₂) _ _
    (λ (lens, p₃) e₃.
    column-bridge wide offset_step l n (none, lens) p₃ _
    ∙ bind-cong (column_at wide offset_step n (none, lens) l p₃) _ _
    (λ (offs, p₄) e₄.
    let h₀ = (place_after wide l 0 e).1 in
    let h₁ = inside wide id_step n 0 l at (ids, p₁) e₁ h₀ in
    let h₂ = inside narrow plain_step n tt l p₁ (runs, p₂) e₂ h₁ in
    let h₃ = inside narrow plain_step n tt l p₂ (lens, p₃) e₃ h₂ in
    let h₄ = inside wide offset_step n (none, lens) l p₃ (offs, p₄) e₄ h₃ in
    let u : length l - length (drop p₄ l) ≡ p₄ = omega (arith, length-drop p₄ l) in
    rw u)))))))

-- what finds that the entries were read and checked, or refused
pub ruleset entered = (check-all, take_all)

-- and that the stores then hold what the bytes decode to
pub ruleset decoded = (decode-at, length-take-le, take_at, drop_at, counting-sound, counting-then)
