-- Calls in a row, whatever their budgets, leave what so many stores leave. Assumes nothing.
use mathlib.Core.Path.{◌≡◌, refl, sym, ap, ap₂, ◌∙◌, subst}
use mathlib.Core.List.{List, [], ◌∷◌, map}
use Prim.Native.Nat.{ℕ, zero, suc, ◌+◌, ◌-◌, ◌≤◌, min}
use native.Mathlib.Omega.{arith}
use lib.ListN.{length, take, drop, replicate, length-drop}
use lib.Seq.{drop-drop, drop-length, take-add, take-nil}
use Rattle.refusal.specs.Out.{Out, ok, ◌>>=◌}
use Rattle.header.specs.Header.{header_bytes}
use Rattle.header.proofs.ReadBack.{header-length}
use Rattle.publisher.specs.Plan.{Store, header_for, stored, stored_from, stores, store_at_lem, numbers}
use Rattle.publisher.specs.Calls.{Accepted, AcceptedFor, Parts, Standing, calling, calls, stores_of, sum, total_of}
use Rattle.publisher.proofs.Admitted.{publishes}
use Rattle.publisher.proofs.Demand.{length-plan, length-stores}
use Rattle.publisher.proofs.Places.{just-those}
use Rattle.publisher.proofs.Stores.{stored-append, length-stored}
use Rattle.std.proofs.lemmas.List.{drop_min, take_min}

-- ---- over any list of stores

-- k stores from p on and then n stores
pub then-stores : (p k n : ℕ) (ss : List Store) (d : List ℕ) → stored_from (p + k) n ss (stored_from p k ss d) ≡ stored_from p (k + n) ss d
then-stores p k n ss d = sym (rw (take-add, stored-append, drop-drop))

-- a call at p with budget k, and then one at the position that it returned with budget n
pub two-calls : (p k n : ℕ) (ss : List Store) (d : List ℕ)
    → stored_from (p + min k (length ss - p)) n ss (stored_from p k ss d) ≡ stored_from p (k + n) ss d
two-calls p k n ss d =
    let e : drop (p + min k (length ss - p)) ss ≡ drop (p + k) ss =
    sym (drop-drop (min k (length ss - p)) p ss)
    ∙ ap (λ (j : ℕ). drop (min k j) (drop p ss)) (sym (length-drop p ss))
    ∙ drop_min k (drop p ss)
    ∙ drop-drop k p ss in
    rw e (then-stores p k n ss d)

-- ---- over a publication that is accepted

abbrev pub standing : ℕ → List ℕ → Standing
standing p d = record { position = p; dest = d }

pub one-call : (x : Parts) (d : List ℕ) (p b : ℕ) → AcceptedFor x d → p ≤ total_of x
    → calling x b (standing p d) ≡ ok (standing (p + min b (total_of x - p)) (stored_from p b (stores_of x) d))
one-call x d p b a h =
    ap (λ (o : Out ℕ). o >>= λ next. ok (standing next (stored_from p b (stores_of x) d)))
    (publishes x.settings (length x.root) (length x.metadata) (length x.tiles) (length x.leaves) (length d) p b a h)

-- calls from a position on leave what one call with all their budgets leaves
pub calls-sum : (x : Parts) (bs d : List ℕ) (p : ℕ) → AcceptedFor x d → p ≤ total_of x
    → calls x bs (standing p d) ≡ ok (standing (p + min (sum bs) (total_of x - p)) (stored_from p (sum bs) (stores_of x) d))
calls-sum x [] d p a h = ap {B = Out Standing} (λ (k : ℕ). ok (standing k d)) (omega arith)
calls-sum x (b ∷ bs) d p a h =
    let t = total_of x in
    let q : ℕ = p + min b (t - p) in
    let d' : List ℕ = stored_from p b (stores_of x) d in
    let a' : AcceptedFor x d' =
    subst (λ (n : ℕ). Accepted x.settings (length x.root) (length x.metadata) (length x.tiles) (length x.leaves) n)
    (sym (length-stored (take b (drop p (stores_of x))) d)) a in
    let e : stored_from q (sum bs) (stores_of x) d' ≡ stored_from p (b + sum bs) (stores_of x) d =
    subst (λ (n : ℕ). stored_from (p + min b (n - p)) (sum bs) (stores_of x) d' ≡ stored_from p (b + sum bs) (stores_of x) d)
    (length-stores x.settings x.counts x.root x.metadata x.tiles x.leaves) (two-calls p b (sum bs) (stores_of x) d) in
    ap (λ (o : Out Standing). o >>= calls x bs) (one-call x d p b a h)
    ∙ calls-sum x bs d' q a' (omega arith)
    ∙ ap₂ {C = Out Standing} (λ (k : ℕ) (l : List ℕ). ok (standing k l)) (omega arith) e

-- calls with any budgets from position 0, each at the position that the last returned, leave a prefix of the stores: none is skipped, none repeated
pub any-calls : (x : Parts) (bs d : List ℕ) → AcceptedFor x d
    → calls x bs (standing 0 d) ≡ ok (standing (min (sum bs) (total_of x)) (stored (take (min (sum bs) (total_of x)) (stores_of x)) d))
any-calls x bs d a =
    calls-sum x bs d 0 a (omega arith)
    ∙ ap₂ {C = Out Standing} (λ (k : ℕ) (l : List ℕ). ok (standing k l)) (omega arith)
    (ap (λ (ss : List Store). stored ss d)
    (sym (take_min (sum bs) (stores_of x))
    ∙ ap (λ (n : ℕ). take (min (sum bs) n) (stores_of x)) (length-stores x.settings x.counts x.root x.metadata x.tiles x.leaves)))

sum_ones : (b : ℕ) → sum (replicate b 1) ≡ b
sum_ones zero = refl
sum_ones (suc b) = let e = sum_ones b in omega arith

-- a larger budget leaves what as many calls of budget 1 leave
pub by_ones : (x : Parts) (d : List ℕ) (p b : ℕ) → AcceptedFor x d → p ≤ total_of x
    → calling x b (standing p d) ≡ calls x (replicate b 1) (standing p d)
by_ones x d p b a h =
    one-call x d p b a h
    ∙ ap {B = Out Standing} (λ (n : ℕ). ok (standing (p + min n (total_of x - p)) (stored_from p n (stores_of x) d))) (sym (sum_ones b))
    ∙ sym (calls-sum x (replicate b 1) d p a h)

-- budget 0 changes nothing
pub no-budget : (x : Parts) (d : List ℕ) (p : ℕ) → AcceptedFor x d → p ≤ total_of x → calling x 0 (standing p d) ≡ ok (standing p d)
no-budget x d p a h = one-call x d p 0 a h ∙ ap {B = Out Standing} (λ (k : ℕ). ok (standing k d)) (omega arith)

-- nor does a call at the end
pub at-the-end : (x : Parts) (d : List ℕ) (b : ℕ) → AcceptedFor x d → calling x b (standing (total_of x) d) ≡ ok (standing (total_of x) d)
at-the-end x d b a =
    let e : drop (total_of x) (stores_of x) ≡ [] =
    ap (λ (n : ℕ). drop n (stores_of x)) (sym (length-stores x.settings x.counts x.root x.metadata x.tiles x.leaves)) ∙ drop-length (stores_of x) in
    one-call x d (total_of x) b a (omega arith)
    ∙ ap₂ {C = Out Standing} (λ (k : ℕ) (l : List ℕ). ok (standing k l)) (omega arith) (ap (λ (ss : List Store). stored (take b ss) d) e ∙ ap (λ (ss : List Store). stored ss d) (take-nil b))

-- a caller who skips ahead gets just the stores asked for: numbers p to p + b - 1, or to the last
pub skip-ahead : (x : Parts) (d : List ℕ) (p b : ℕ) → AcceptedFor x d → p ≤ total_of x
    → calling x b (standing p d) ≡ ok (standing (p + min b (total_of x - p)) (stored (map (store_at_lem
    (header_bytes (header_for x.settings x.counts (length x.root) (length x.metadata) (length x.tiles) (length x.leaves)))
    x.root x.metadata x.tiles x.leaves) (numbers p (min b (total_of x - p)))) d))
unfolding stores
skip-ahead x d p b a h =
    let H : List ℕ = header_bytes (header_for x.settings x.counts (length x.root) (length x.metadata) (length x.tiles) (length x.leaves)) in
    let len : length H ≡ 127 = header-length (header_for x.settings x.counts (length x.root) (length x.metadata) (length x.tiles) (length x.leaves)) in
    let n = length-plan H x.root x.metadata x.tiles x.leaves len in
    one-call x d p b a h
    ∙ ap {B = Out Standing} (λ (l : List ℕ). ok (standing (p + min b (total_of x - p)) l))
    (just-those H x.root x.metadata x.tiles x.leaves d p b len (rw n h)
    ∙ ap (λ (k : ℕ). stored (map (store_at_lem H x.root x.metadata x.tiles x.leaves) (numbers p (min b (k - p)))) d) n)
