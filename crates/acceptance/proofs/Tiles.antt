-- The builder's checks, one entry at a time. Assumes nothing.
use Prim.Native.Nat.{ℕ, ◌+◌, ◌^◌, ◌≤◌, ◌<◌}
use mathlib.Core.Path.{◌≡◌, refl, ap, sym, ◌∙◌}
use mathlib.Core.List.{List, [], ◌∷◌}
use native.Mathlib.Numerals.{add-one}
use native.Mathlib.Omega.{arith}
use borrow.Author.Tests.{le-leb, leb-true, lt-ltb, ltb-true}
use lib.Dec.{leb, ltb}
use lib.ListN.{drop, drop_of_length-le, get_or}
use Rattle.refusal.specs.Out.{Out, ok, ◌>>=◌, need}
use Rattle.refusal.proofs.OutLaws.{need-bind, need-ok, ok-is}
use Rattle.directory.specs.Entries.{Entry, Valid, after, check_one, entry}
use Rattle.directory.specs.Answers.{checked}
use Rattle.directory.specs.Search.{All, shortest, stored}
use Rattle.directory.proofs.Checks.{one-good, one-sound}
use Rattle.directory.proofs.Slots.{slot, stored-length}
use Rattle.acceptance.specs.Accept.{Taken, addressed, check_tiles_lem, tile_one}

-- ---- one entry: its run, the checks of reading, then its place in the tile data

pub tile_steps : (size lo : ℕ) (e : Entry) → tile_one size lo e ≡ need (ltb 0 e.run) 12 (checked lo e.id e.run e.len >>= λ next. need (leb (e.off + e.len) size) 17 (ok next))
unfolding tile_one checked
tile_steps size lo e = sym (simp need-bind)

-- what an entry that passes says of the least id that may follow
pub tile_next : (size lo : ℕ) (e : Entry) {next : ℕ} → ok next ≡ tile_one size lo e → (lo + e.run ≤ next) × (lo + e.run < 2 ^ 64)
unfolding tile_one
tile_next size lo e {next} h =
    let a = need-ok (ltb 0 e.run) 12 (check_one lo e (need (leb (e.off + e.len) size) 17 (ok (after e)))) next (sym h) in
    let g = one-sound lo e (need (leb (e.off + e.len) size) 17 (ok (after e))) next a.1 in
    let b = ok-is (need-ok (leb (e.off + e.len) size) 17 (ok (after e)) next g.1).1 in
    omega arith

-- ---- entries

tiles_more : {A : Type 0} (size lo : ℕ) (e : Entry) (es : List Entry) (x : Out A) → check_tiles_lem size lo (e ∷ es) x ≡ tile_one size lo e >>= λ next. check_tiles_lem size next es x
unfolding tile_one
tiles_more size lo e es x = sym (simp need-bind)

pub tiles-then : {A B : Type 0} (size lo : ℕ) (es : List Entry) (x : Out A) (f : A → Out B) → check_tiles_lem size lo es x >>= f ≡ check_tiles_lem size lo es (x >>= f)
tiles-then size lo [] x f = refl
tiles-then size lo (e ∷ es) x f = simp (need-bind, tiles-then size (after e) es x f)

-- ---- the entries of stores from a slot on: one more, or none

module _ (n : ℕ) (a b c d : List ℕ) (h : n ≤ shortest a b c d) (i : ℕ) where
  module _ (m : i < n) where
    slot_next : drop i (stored n a b c d) ≡ entry (get_or a i 0) (get_or b i 0) (get_or c i 0) (get_or d i 0) ∷ drop (i + 1) (stored n a b c d)
    slot_next = rw add-one (slot n a b c d h i m)

    pub tiles_turn : {A : Type 0} (size lo : ℕ) (x : Out A) → check_tiles_lem size lo (drop i (stored n a b c d)) x
        ≡ tile_one size lo (entry (get_or a i 0) (get_or b i 0) (get_or c i 0) (get_or d i 0)) >>= λ next. check_tiles_lem size next (drop (i + 1) (stored n a b c d)) x
    tiles_turn size lo x = ap (λ l. check_tiles_lem size lo l x) slot_next ∙ tiles_more size lo _ (drop (i + 1) (stored n a b c d)) x

    pub addressed_turn : addressed (drop i (stored n a b c d)) ≡ get_or b i 0 + addressed (drop (i + 1) (stored n a b c d))
    addressed_turn = ap addressed slot_next

  module _ (m : n ≤ i) where
    pub slots_end : drop i (stored n a b c d) ≡ []
    slots_end = drop_of_length-le (stored n a b c d) {i = i} (rw (stored-length n a b c d h) m)

    pub addressed_end : addressed (drop i (stored n a b c d)) ≡ 0
    addressed_end = ap addressed slots_end

-- ---- what the checks decide

-- entries that pass are valid and taken
pub tiles-sound : {A : Type 0} (size lo : ℕ) (es : List Entry) (x : Out A) (y : A) → check_tiles_lem size lo es x ≡ ok y → Valid lo es × All (Taken size) es × (x ≡ ok y)
tiles-sound size lo [] x y h = (tt, tt, h)
tiles-sound size lo (e ∷ es) x y h =
    let rest = check_tiles_lem size (after e) es x in
    let a = need-ok (ltb 0 e.run) 12 (check_one lo e (need (leb (e.off + e.len) size) 17 rest)) y h in
    let g = one-sound lo e (need (leb (e.off + e.len) size) 17 rest) y a.1 in
    let b = need-ok (leb (e.off + e.len) size) 17 rest y g.1 in
    let r = tiles-sound size (after e) es x y b.1 in
    ((g.0, r.0), (record { covers = ltb-true 0 e.run a.0; in_data = leb-true (e.off + e.len) size b.0 }, r.1), r.2)

-- and those that are pass
pub tiles-pass : {A : Type 0} (size lo : ℕ) (es : List Entry) (x : Out A) → Valid lo es → All (Taken size) es → check_tiles_lem size lo es x ≡ x
tiles-pass size lo [] x v t = refl
tiles-pass size lo (e ∷ es) x v t =
    rw (
      lt-ltb 0 e.run t.0.covers,
      one-good lo e (need (leb (e.off + e.len) size) 17 (check_tiles_lem size (after e) es x)) v.0,
      le-leb (e.off + e.len) size t.0.in_data,
    )
    (tiles-pass size (after e) es x v.1 t.1)
