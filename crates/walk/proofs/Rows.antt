-- The rows of columns that are walked side by side are the entries of the columns read one after another. Assumes nothing.
use Prim.Native.Nat.{ℕ, zero, suc, ◌+◌, ◌-◌, ◌^◌}
use mathlib.Core.Path.{◌≡◌, ap, sym, ◌∙◌}
use mathlib.Core.List.{List, [], ◌∷◌}
use mathlib.Core.Option.{none, some}
use lib.Dec.{leb, ltb}
use lib.ListN.{drop}
use Rattle.std.specs.Prelude.{Some, None}
use Rattle.refusal.specs.Out.{Out, ok, ◌>>=◌, need}
use Rattle.refusal.proofs.OutLaws.{bind_assoc, bind-cong, bind_ok, need-bind, need-ok, ok-is}
use Rattle.varint.specs.Varint.{Width, narrow, read_at, wide}
use Rattle.varint.proofs.Reading.{bridge}
use Rattle.directory.specs.Entries.{Entry, check, entry, max_count}
use Rattle.directory.specs.Columns.{column_at, columns, entries, id_step, offset_of, offset_step, plain_step}
use Rattle.directory.specs.Decode.{decode, ended}
use Rattle.directory.specs.Answers.{end_after}
use Rattle.walk.specs.Walk.{columns_at, open_in, past, rest_in, row_at, rows_from, rows_in, step_at}
use Rattle.walk.specs.declared.cursors.Columns.{Columns}
use Rattle.walk.proofs.ByEntry.{check_bind}
use Rattle.directory.proofs.Column.{column-bridge}

-- ---- a column that was read has a first number and a rest

record Split {S : Type 0} (w : Width) (step : S → ℕ → Out (ℕ × S)) (n : ℕ) (s : S) (l : List ℕ) (at : ℕ) (xs : List ℕ) (r : ℕ) : Type 0 where
  v : ℕ
  p : ℕ
  x : ℕ
  s' : S
  xs' : List ℕ
  here : read_at w l at ≡ ok (v, p)
  turned : step s v ≡ ok (x, s')
  rest : column_at w step n s' l p ≡ ok (xs', r)
  is : xs ≡ x ∷ xs'

module _ {S : Type 0} (w : Width) (step : S → ℕ → Out (ℕ × S)) (n : ℕ) (s : S) (l : List ℕ) (at : ℕ) (xs : List ℕ) (r : ℕ) where
  split : column_at w step (suc n) s l at ≡ ok (xs, r) → Split w step n s l at xs r
  split e = first (bind_ok (read_at w l at) _ (xs, r) e)
    where
      last : (v p x : ℕ) (s' : S) → read_at w l at ≡ ok (v, p) → step s v ≡ ok (x, s')
          → (a : List ℕ × ℕ) × (column_at w step n s' l p ≡ ok a) × (◌≡◌ {A = Out (List ℕ × ℕ)} (ok (x ∷ a.0, a.1)) (ok (xs, r)))
          → Split w step n s l at xs r
      last v p x s' h g f =
          record {
            v = v;
            p = p;
            x = x;
            s' = s';
            xs' = f.0.0;
            here = h;
            turned = g;
            rest = f.1 ∙ ap {B = Out (List ℕ × ℕ)} (λ z. ok (f.0.0, z)) (ap (λ (a : List ℕ × ℕ). a.1) (ok-is f.2));
            is = sym (ap (λ (a : List ℕ × ℕ). a.0) (ok-is f.2));
          }

      second : (v p : ℕ) → read_at w l at ≡ ok (v, p)
          → (a : ℕ × S) × (step s v ≡ ok a) × (◌>>=◌ {B = List ℕ × ℕ} (column_at w step n a.1 l p) (λ (ys, q). ok (a.0 ∷ ys, q)) ≡ ok (xs, r))
          → Split w step n s l at xs r
      second v p h g = last v p g.0.0 g.0.1 h g.1 (bind_ok (column_at w step n g.0.1 l p) _ (xs, r) g.2)

      first : (a : ℕ × ℕ) × (read_at w l at ≡ ok a)
          × (◌>>=◌ {B = List ℕ × ℕ} (step s a.0) (λ (x, s'). column_at w step n s' l a.1 >>= λ (ys, q). ok (x ∷ ys, q)) ≡ ok (xs, r))
          → Split w step n s l at xs r
      first h = second h.0.0 h.0.1 h.1 (bind_ok (step s h.0.0) _ (xs, r) h.2)

-- what an id's step hands on is the id, and what a plain number stands for is the number
id_same : (before d : ℕ) {a : ℕ × ℕ} → id_step before d ≡ ok a → a.0 ≡ a.1
id_same before d {a} e = rw (← ok-is (need-ok (ltb (before + d) (2 ^ 64)) 11 (ok (before + d, before + d)) a e).1)

plain-same : {v : ℕ} {a : ℕ × Unit {0}} → ok (v, tt) ≡ ok a → a.0 ≡ v
plain-same e = sym (ap (λ (x : ℕ × Unit {0}). x.0) (ok-is e))

-- ---- the rows are the entries

module _ (l : List ℕ) where
  -- of the columns but that of the offset codes n numbers can be read
  record Numbers (n : ℕ) (k : Columns) (is rs ls : List ℕ) (ri rr rl : ℕ) : Type 0 where
    ids : column_at wide id_step n k.last_id l k.ids.at ≡ ok (is, ri)
    runs : column_at narrow plain_step n tt l k.runs.at ≡ ok (rs, rr)
    lengths : column_at narrow plain_step n tt l k.lengths.at ≡ ok (ls, rl)

  abbrev Side : ℕ → Columns → List ℕ → List ℕ → List ℕ → Type 0
  Side n k is rs ls =
      column_at wide offset_step n (end_after k.before, ls) l k.offsets.at >>= (λ (os, q). ok (entries is rs ls os, q)) ≡ rows_from l n k

  -- so the faults left are those of the offset codes
  rows-side : (n : ℕ) (k : Columns) (is rs ls : List ℕ) (ri rr rl : ℕ) → Numbers n k is rs ls ri rr rl → Side n k is rs ls
  unfolding row_at step_at
  rows-side zero k is rs ls ri rr rl m = let q : [] ≡ is = ap (λ (x : List ℕ × ℕ). x.0) (ok-is m.ids) in rw (← q)
  rows-side (suc n) k is rs ls ri rr rl m =
      go
      (split wide id_step n k.last_id l k.ids.at is ri m.ids)
      (split narrow plain_step n tt l k.runs.at rs rr m.runs)
      (split narrow plain_step n tt l k.lengths.at ls rl m.lengths)
      (λ k' is' rs' ls'. rows-side n k' is' rs' ls' ri rr rl)
    where
      go : (a : Split wide id_step n k.last_id l k.ids.at is ri) (b : Split narrow plain_step n tt l k.runs.at rs rr) (c : Split narrow plain_step n tt l k.lengths.at ls rl)
          → ((k' : Columns) (is' rs' ls' : List ℕ) → Numbers n k' is' rs' ls' ri rr rl → Side n k' is' rs' ls') → Side (suc n) k is rs ls
      go a b c ih =
          let same : a.x ≡ a.s' = id_same k.last_id a.v a.turned in
          let run : b.x ≡ b.v = plain-same b.turned in
          let len : c.x ≡ c.v = plain-same c.turned in
          rw (a.is, b.is, c.is, a.here, a.turned, b.here, c.here, same, run, len)
          (simp bind_assoc
          (bind-cong (read_at wide l k.offsets.at) _ _ (λ y _.
          bind-cong (offset_of (end_after k.before) y.0) _ _ (λ o _.
          sym (bind_assoc (column_at wide offset_step n (some (o + c.v), c.xs') l y.1) (λ (os, q). ok (entries a.xs' b.xs' c.xs' os, q)) (λ (es, q). ok (entry a.s' b.v c.v o ∷ es, q)))
          ∙ ap (λ (z : Out (List Entry × ℕ)). z >>= λ (es, q). ok (entry a.s' b.v c.v o ∷ es, q))
          (ih (columns_at a.p b.p c.p y.1 (k.left - 1) a.s' (Some (record { offset = record { 0 = o }; length = c.v }))) a.xs' b.xs' c.xs' (record { ids = a.rest; runs = b.rest; lengths = c.rest }))))))

  -- the columns, whatever is done with them, opened and then walked
  pub columns-rows : {B : Type 0} (G : List Entry × List ℕ → Out B)
      → columns none l >>= G ≡ open_in l >>= λ k. rows_in l k >>= λ (es, q). G (es, drop q l)
  unfolding columns open_in past rows_in
  columns-rows {B} G =
      simp (bind_assoc, need-bind)
      (bridge wide l 0 _
      ∙ bind-cong (read_at wide l 0) _ _ (λ n _.
      ap (λ (z : Out B). need (leb n.0 max_count) 19 z)
      (column-bridge wide id_step l n.0 0 n.1 _
      ∙ bind-cong (column_at wide id_step n.0 0 l n.1) _ _ (λ i ei.
      column-bridge narrow plain_step l n.0 tt i.1 _
      ∙ bind-cong (column_at narrow plain_step n.0 tt l i.1) _ _ (λ r er.
      column-bridge narrow plain_step l n.0 tt r.1 _
      ∙ bind-cong (column_at narrow plain_step n.0 tt l r.1) _ _ (λ s es.
      column-bridge wide offset_step l n.0 (none, s.0) s.1 _
      ∙ sym (bind_assoc (column_at wide offset_step n.0 (none, s.0) l s.1) (λ (os, q). ok (entries i.0 r.0 s.0 os, q)) (λ (xs, q). G (xs, drop q l)))
      ∙ ap (λ (z : Out (List Entry × ℕ)). z >>= λ (xs, q). G (xs, drop q l))
      (rows-side n.0 (columns_at n.1 i.1 r.1 s.1 n.0 0 None) i.0 r.0 s.0 i.1 r.1 s.1 (record { ids = ei; runs = er; lengths = es }))))))))

  -- a directory's entries, whatever is done with them, are the rows of its columns, checked
  pub decode-rows : {B : Type 0} (F : List Entry → Out B) → decode none l >>= (λ (es, u). F es) ≡ open_in l >>= λ k. rest_in l k (λ es. check 0 es (F es))
  unfolding decode rest_in
  decode-rows F = simp (bind_assoc, check_bind) (columns-rows (λ (es, rest). ended l rest >>= λ u. check 0 es (F es)))
