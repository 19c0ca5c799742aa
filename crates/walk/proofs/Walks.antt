-- A walk over open columns: one row after another, what is left, and how many there are. Assumes nothing.
use Prim.Native.Nat.{ℕ, zero, suc, ◌-◌, ◌≤◌, ◌<◌}
use mathlib.Core.Path.{◌≡◌, refl, ap, sym, ◌∙◌}
use mathlib.Core.Bool.{Bool, true, false}
use mathlib.Core.List.{List, [], ◌∷◌}
use mathlib.Core.Option.{Option, none, some}
use native.Mathlib.Omega.{arith}
use borrow.Author.Tests.{eq-eqb, eqb-false, leb-true, ne_eqb}
use lib.Dec.{eqb, leb}
use lib.ListN.{drop, length}
use Rattle.refusal.specs.Out.{Out, ok, bad, ◌>>=◌}
use Rattle.refusal.proofs.OutLaws.{bind_assoc, bind-cong, bind_ok, need-ok, ok-is}
use Rattle.varint.specs.Varint.{narrow, read_at, wide}
use Rattle.directory.specs.Entries.{Entry, Valid, check, max_count}
use Rattle.directory.specs.Columns.{id_step, offset_of, plain_step}
use Rattle.directory.specs.Decode.{decode, ended}
use Rattle.directory.specs.Answers.{end_after}
use Rattle.walk.specs.Walk.{next_in, open_in, past, rest_in, row_at, rows_from, rows_in, step_at}
use Rattle.walk.specs.declared.cursors.Columns.{Columns}
use Rattle.directory.proofs.Checks.{check_sound}
use Rattle.walk.proofs.Rows.{decode-rows}

-- ---- one row after another

-- what holds of every value that can come holds of the one that came
bind_all : {A B : Type 0} (P : B → Type 0) (x : Out A) (f : A → Out B) → ((a : A) (b : B) → f a ≡ ok b → P b) → (b : B) → x >>= f ≡ ok b → P b
bind_all P (ok a) f h b e = h a b e
bind_all P (bad n) f h b e = let z : ◌≡◌ {A = ℕ} 0 1 = cc in absurd (omega arith)

row-left : (l : List ℕ) (k : Columns) (a : Entry × Columns) → row_at l k ≡ ok a → a.1.left ≡ k.left - 1
unfolding row_at
row-left l k =
    let P : Entry × Columns → Type 0 = λ a. a.1.left ≡ k.left - 1 in
    bind_all P (step_at wide id_step k.last_id l k.ids.at) _ (λ i. bind_all P (read_at narrow l k.runs.at) _ (λ r. bind_all P (read_at narrow l k.lengths.at) _ (λ n.
    bind_all P (read_at wide l k.offsets.at) _ (λ x. bind_all P (offset_of (end_after k.before) x.0) _ (λ o a e.
    sym (ap (λ (b : Entry × Columns). b.1.left) (ok-is e)))))))

module _ {B : Type 0} (l : List ℕ) (k : Columns) (F : List Entry → Out B) where
  -- what a walk goes on with, after the answer of a step
  abbrev after-step : Option (Entry × Columns) → Out B
  after-step none = F []
  after-step (some (e, k')) = rest_in l k' (λ es. F (e ∷ es))

  rest-next : rest_in l k F ≡ next_in l k >>= after-step
  unfolding rest_in rows_in next_in
  rest-next = go k.left refl
    where
      go : (n : ℕ) → k.left ≡ n → rows_from l n k >>= (λ (es, q). ended l (drop q l) >>= λ u. F es) ≡ next_in l k >>= after-step
      go zero e = rw (eq-eqb k.left 0 e) (sym (bind_assoc (ended l (drop k.offsets.at l)) (λ u. ok none) after-step))
      go (suc n) e =
          rw (ne_eqb k.left 0 (λ z. omega arith))
          (simp bind_assoc
          (bind-cong (row_at l k) _ _ (λ a r. let same : a.1.left ≡ n = omega (arith, row-left l k a r) in rw same)))

  pub rest-row : {e : Entry} {k' : Columns} → ok (some (e, k')) ≡ next_in l k → rest_in l k F ≡ rest_in l k' (λ es. F (e ∷ es))
  rest-row p = rest-next ∙ (rw (← p))

  pub rest-bad : {n : ℕ} → bad n ≡ next_in l k → rest_in l k F ≡ bad n
  rest-bad p = rest-next ∙ (rw (← p))

  pub rest_end : ok none ≡ next_in l k → rest_in l k F ≡ F []
  rest_end p = rest-next ∙ (rw (← p))

  pub rest-same : {G : List Entry → Out B} → ((es : List Entry) → F es ≡ G es) → rest_in l k F ≡ rest_in l k G
  unfolding rest_in
  rest-same h = bind-cong (rows_in l k) _ _ (λ a _. bind-cong (ended l _) _ _ (λ u _. h a.0))

pub next_less : (l : List ℕ) (k : Columns) {e : Entry} {k' : Columns} → ok (some (e, k')) ≡ next_in l k → k'.left < k.left
unfolding next_in
next_less l k {e} {k'} p = go (eqb k.left 0) refl
  where
    less : 0 < k.left → (a : Entry × Columns) × (row_at l k ≡ ok a) × (◌≡◌ {A = Out (Option (Entry × Columns))} (ok (some a)) (ok (some (e, k')))) → k'.left < k.left
    less h g =
        let s : g.0 ≡ (e, k') = cc in
        omega (arith, row-left l k g.0 g.1, ap (λ (a : Entry × Columns). a.1.left) s)

    over : (u : ℕ) × (ended l (drop k.offsets.at l) ≡ ok u) × (◌≡◌ {A = Out (Option (Entry × Columns))} (ok none) (ok (some (e, k')))) → k'.left < k.left
    over g = let z : ◌≡◌ {A = ℕ} 0 1 = cc in absurd (omega arith)

    go : (b : Bool) → eqb k.left 0 ≡ b → k'.left < k.left
    go true q = over (bind_ok (ended l (drop k.offsets.at l)) _ (some (e, k')) (sym (rw q at p)))
    go false q = less (omega (arith, eqb-false k.left 0 q)) (bind_ok (row_at l k) _ (some (e, k')) (sym (rw q at p)))

-- ---- how many

pub rows-length : (l : List ℕ) (n : ℕ) (k : Columns) (a : List Entry × ℕ) → rows_from l n k ≡ ok a → length a.0 ≡ n
rows-length l zero k a e = let q : ([], k.offsets.at) ≡ a = ok-is e in rw (← q)
rows-length l (suc n) k a e =
    bind_all (λ (b : List Entry × ℕ). length b.0 ≡ suc n) (row_at l k) _
    (λ x b f.
    let h = bind_ok (rows_from l n x.1) (λ (es, q). ok (x.0 ∷ es, q)) b f in
    let q : length b.0 ≡ suc (length h.0.0) = sym (ap (λ (c : List Entry × ℕ). length c.0) (ok-is h.2)) in
    q ∙ ap (λ (m : ℕ). suc m) (rows-length l n x.1 h.0 h.1))
    a e

pub open-left : (l : List ℕ) (k : Columns) → open_in l ≡ ok k → k.left ≤ max_count
unfolding open_in
open-left l =
    bind_all (λ (k : Columns). k.left ≤ max_count) (read_at wide l 0) _
    (λ n k e.
    let h = need-ok (leb n.0 max_count) 19 _ k e in
    let small : n.0 ≤ max_count = leb-true n.0 max_count h.0 in
    let P : Columns → Type 0 = λ c. c.left ≤ max_count in
    bind_all P (past wide id_step n.0 0 l n.1) _ (λ b. bind_all P (past narrow plain_step n.0 tt l b) _ (λ c. bind_all P (past narrow plain_step n.0 tt l c) _ (λ d k' q.
    let same : n.0 ≡ k'.left = ap (λ (x : Columns). x.left) (ok-is q) in omega arith)))
    k h.1)

-- ---- what was decoded: the columns open, their rows are the entries, and these are few and valid

pub record Walked (bs : List ℕ) (es : List Entry) : Type 0 where
  pub k : Columns
  pub q : ℕ
  pub opened : open_in bs ≡ ok k
  pub rows : rows_in bs k ≡ ok (es, q)
  pub few : length es ≤ max_count
  pub valid : Valid 0 es

pub walked : (bs : List ℕ) (es : List Entry) (u : ℕ) → decode none bs ≡ ok (es, u) → Walked bs es
unfolding rest_in rows_in
walked bs es u e = first (bind_ok (open_in bs) _ es (sym (decode-rows bs ok) ∙ (rw e)))
  where
    last : (k : Columns) (a : List Entry × ℕ) → open_in bs ≡ ok k → rows_in bs k ≡ ok a → Valid 0 a.0 × (◌≡◌ {A = Out (List Entry)} (ok a.0) (ok es)) → Walked bs es
    last k a o r h =
        let same : a.0 ≡ es = ok-is h.1 in
        record {
          k = k;
          q = a.1;
          opened = o;
          rows = r ∙ ap {B = Out (List Entry × ℕ)} (λ xs. ok (xs, a.1)) same;
          few = omega (arith, rows-length bs k.left k a r, open-left bs k o, ap (λ (xs : List Entry). length xs) same);
          valid = rw (← same) h.0;
        }

    second : (k : Columns) → open_in bs ≡ ok k
        → (a : List Entry × ℕ) × (rows_in bs k ≡ ok a) × (◌>>=◌ {B = List Entry} (ended bs (drop a.1 bs)) (λ v. check 0 a.0 (ok a.0)) ≡ ok es)
        → Walked bs es
    second k o h =
        last k h.0 o h.1 (check_sound 0 h.0.0 (ok h.0.0) es (bind_ok (ended bs (drop h.0.1 bs)) (λ v. check 0 h.0.0 (ok h.0.0)) es h.2).2)

    first : (k : Columns) × (open_in bs ≡ ok k) × (rest_in bs k (λ xs. check 0 xs (ok xs)) ≡ ok es) → Walked bs es
    first h = second h.0 h.1 (bind_ok (rows_in bs h.0) _ es h.2)
