-- What the contracts of `build` and `publish` say, in the words of the demand. Assumes nothing.
use Prim.Native.Nat.{ℕ}
use mathlib.Core.Path.{◌≡◌, ap, sym, ◌∙◌}
use mathlib.Core.List.{List}
use lib.Dec.{leb}
use lib.ListN.{drop, length, take}
use lib.Seq.{take-append_seam}
use Rattle.std.specs.Prelude.{Result, Ok}
use Rattle.refusal.specs.Out.{Out, ok, bad, ◌>>=◌, afterwards, need}
use Rattle.refusal.specs.declared.Refusal.{Refusal}
use Rattle.refusal.proofs.OutLaws.{bind_ok, need-ok, ok-is}
use Rattle.directory.specs.Entries.{Entry}
use Rattle.acceptance.specs.Accept.{accepting}
use Rattle.acceptance.specs.Answers.{counts_of}
use Rattle.acceptance.specs.declared.Counts.{Counts}
use Rattle.writer.specs.Answers.{BuiltFrom, building, fitted, laid, sizes_of}
use Rattle.writer.specs.Build.{build}
use Rattle.writer.specs.declared.Sizes.{Sizes}
use Rattle.publisher.specs.Answers.{said_published}
use Rattle.publisher.specs.Plan.{stored_from}
use Rattle.publisher.specs.Publish.{publishing}
use Rattle.publisher.specs.Calls.{Parts, Standing, calling, stores_of}
use Rattle.publisher.proofs.Admitted.{admitted}
use Rattle.writer.specs.Stock.{Typed}
use Rattle.archive.specs.Demand.{Demand3, Publication, Publishable, leaves_of, parts_of, root_of}
use Rattle.archive.proofs.Demand.{demand-3}

-- ---- what was built

fitted-is : (es fs : List Entry) (n m : ℕ) → fitted es n m ≡ ok fs → es ≡ fs
unfolding fitted
fitted-is es fs n m e =
    let a = need-ok (leb (length (build es).root) n) 15 (need (leb (length (build es).leaves) m) 15 (ok es)) fs e in
    ok-is (need-ok (leb (length (build es).leaves) m) 15 (ok es) fs a.1).1

-- bytes laid at the start of a buffer
laid-there : (x : Out (List Entry)) (es : List Entry) (old new : List ℕ) (bytes : List Entry → List ℕ) (k : ℕ) → x ≡ ok es → k ≡ length (bytes es)
    → new ≡ afterwards x old (λ es. laid (bytes es) old) → take k new ≡ bytes es
laid-there x es old new bytes k e s h = rw (s, h, e) (take-append_seam (bytes es) (drop (length (bytes es)) old))

module _ (n : ℕ) (ids runs lens offs : List ℕ) (size : ℕ) (root leaves root' leaves' : List ℕ) (sizes : Sizes) (counts : Counts) where
  pub record Made (es : List Entry) : Type 0 where
    pub accepted : accepting n ids runs lens offs size ≡ ok es
    pub counted : counts ≡ counts_of es
    pub in_root : take sizes.root root' ≡ (build es).root
    pub in_leaves : take sizes.leaves leaves' ≡ (build es).leaves

  -- where `build` is done, there are such entries
  pub built-is : BuiltFrom (building n ids runs lens offs size (length root) (length leaves)) counts_of (Ok (sizes, counts)) root leaves root' leaves' → (es : List Entry) × Made es
  unfolding building
  built-is b =
      let x : Out (List Entry) = building n ids runs lens offs size (length root) (length leaves) in
      let a = bind_ok x (λ es. ok (sizes_of (build es), counts_of es)) (sizes, counts) (sym b.answer) in
      let c = bind_ok (accepting n ids runs lens offs size) (λ es. fitted es (length root) (length leaves)) a.0 a.1 in
      let same : c.0 ≡ a.0 = fitted-is c.0 a.0 (length root) (length leaves) c.2 in
      let said : ◌≡◌ {A = Sizes × Counts} (sizes_of (build a.0), counts_of a.0) (sizes, counts) = ok-is a.2 in
      let r : sizes.root ≡ length (build a.0).root = sym (ap (λ (w : Sizes × Counts). w.0.root) said) in
      let l : sizes.leaves ≡ length (build a.0).leaves = sym (ap (λ (w : Sizes × Counts). w.0.leaves) said) in (
        a.0,
        record {
          accepted = c.1 ∙ ap ok same;
          counted = sym (ap (λ (w : Sizes × Counts). w.1) said);
          in_root = laid-there x a.0 root root' (λ es. (build es).root) sizes.root a.1 r b.in_root;
          in_leaves = laid-there x a.0 leaves leaves' (λ es. (build es).leaves) sizes.leaves a.1 l b.in_leaves;
        },
      )

-- ---- a call

abbrev pub answering : Parts → ℕ → Standing → Out ℕ
answering x budget now =
    publishing x.settings (length x.root) (length x.metadata) (length x.tiles) (length x.leaves) (length now.dest) now.position budget

abbrev leaving : Parts → ℕ → Standing → List ℕ
leaving x budget now = stored_from now.position budget (stores_of x) now.dest

abbrev pub standing : ℕ → List ℕ → Standing
standing position dest = record { position = position; dest = dest }

call_by : (x y : Out ℕ) (old new dest : List ℕ) → y ≡ x → dest ≡ afterwards x old (λ _. new)
    → x >>= (λ next. ok (standing next new)) ≡ y >>= λ next. ok (standing next dest)
call_by (ok n) y old new dest e h = rw (e, h)
call_by (bad n) y old new dest e h = rw e

-- an answer of `publish`, and what it leaves of the destination, is a call's
pub called : (x : Parts) (budget : ℕ) (now : Standing) (r : Result ℕ Refusal) (dest : List ℕ) → said_published r ≡ answering x budget now
    → dest ≡ afterwards (answering x budget now) now.dest (λ _. leaving x budget now)
    → calling x budget now ≡ said_published r >>= λ next. ok (standing next dest)
called x budget now r dest = call_by (answering x budget now) (said_published r) now.dest (leaving x budget now) dest

-- what the builder took and a call of `publish` did not refuse may be published: the demand presumes no more than the code tests
pub publishable-is : (p : Publication) (dest : List ℕ) (count : ℕ) (ids runs lengths offsets : List ℕ) (position budget next : ℕ) → Typed ids runs lengths offsets
    → accepting count ids runs lengths offsets (length p.tiles) ≡ ok p.entries
    → answering (parts_of p) budget (standing position dest) ≡ ok next → Publishable p dest
publishable-is p dest count ids runs lengths offsets position budget next t a e =
    let h = admitted p.settings (length (root_of p)) (length p.metadata) (length p.tiles) (length (leaves_of p)) (length dest) position budget next e in
    record {
      count = count;
      ids = ids;
      runs = runs;
      lengths = lengths;
      offsets = offsets;
      typed = t;
      accepted = a;
      compression = h.0.compression;
      type = h.0.type;
      fits = h.0.sum;
      room = h.0.room;
    }

-- and so the demand holds of it
pub demand-of : (p : Publication) (dest : List ℕ) (count : ℕ) (ids runs lengths offsets : List ℕ) (position budget next : ℕ) → Typed ids runs lengths offsets
    → accepting count ids runs lengths offsets (length p.tiles) ≡ ok p.entries
    → answering (parts_of p) budget (standing position dest) ≡ ok next → Demand3 p dest
demand-of p dest count ids runs lengths offsets position budget next t a e =
    demand-3 p dest (publishable-is p dest count ids runs lengths offsets position budget next t a e)
