-- The outcomes of writing a directory; and what was written is read back. Assumes nothing.
use Prim.Native.Nat.{ℕ, ◌+◌, ◌≤◌, ◌<◌}
use mathlib.Core.Path.{◌≡◌, refl, ap, sym, ◌∙◌}
use mathlib.Core.List.{List, ◌++◌}
use mathlib.Core.Bool.{true}
use mathlib.Core.Option.{Option, none}
use native.Mathlib.Omega.{arith}
use borrow.Author.Tests.{le-leb, lt-leb}
use lib.ListN.{length}
use lib.Seq.{sets, sets-eq}
use Rattle.refusal.specs.Out.{Out, ok, bad, ◌>>=◌, afterwards}
use Rattle.refusal.proofs.OutLaws.{bind_assoc, bind-cong, bind_ok, ok-is}
use Rattle.directory.specs.Entries.{Valid, max_count}
use Rattle.directory.specs.Columns.{entries, roomy}
use Rattle.directory.specs.Encode.{encode}
use Rattle.directory.specs.Decode.{decode}
use Rattle.directory.specs.Search.{All, counting, stored}
use Rattle.directory.proofs.Round.{decode-encode}
use Rattle.writer.specs.Stock.{Narrow, Typed}
use Rattle.writer.specs.Write.{check_all, encoding}
use Rattle.writer.specs.Answers.{laid, length_of, writing}
use Rattle.writer.specs.Cells.{Codable, Ready, part}
use Rattle.writer.proofs.Coded.{all_codable, all_then, codable-fits}
use Rattle.directory.proofs.Counting.{counting-sound, counting-then}
use Rattle.writer.proofs.Parts.{entries-length, part_length, stored-part}
use Rattle.writer.proofs.Typed.{all-narrow, all-part}

-- what has no value was refused before
pub no_value : {A B : Type 0} (x : Out A) (f : A → B) (k : ℕ) → bad k ≡ x >>= (λ a. ok (f a)) → x ≡ bad k
no_value (ok a) f k h = absurd (cc)
no_value (bad m) f k h = let e : m ≡ k = cc in ap bad e

-- bytes put at the start of a buffer that has room for them
pub landing : (bytes old : List ℕ) → length bytes ≤ length old → sets old 0 bytes ≡ laid bytes old
landing bytes old h = let z : 0 + length bytes ≡ length bytes = omega arith in sets-eq bytes old 0 (omega arith) ∙ rw z

module _ (n : ℕ) (a b c d : List ℕ) where
  module _ (m : ℕ) (h : ok m ≡ counting n a b c d (ok 0)) where
    -- the count is good
    pub counted : (n ≤ max_count) × (n ≤ length (entries a b c d))
    counted = let k = counting-sound n a b c d (ok 0) m (sym h) in (k.0, rw entries-length k.1)

  -- the length: the number of entries is tested first, then each entry
  pub length_is : length_of (encoding n a b c d)
      ≡ counting {A = ℕ} n a b c d (ok 0) >>= λ _. check_all 0 none (part 0 n (entries a b c d)) (ok (length (encode (part 0 n (entries a b c d)))))
  unfolding encoding
  length_is =
      rw (counting-then n a b c d (check_all 0 none (stored n a b c d) (ok (encode (stored n a b c d)))), stored-part n a b c d)
      (simp bind_assoc (bind-cong (counting {A = ℕ} n a b c d (ok 0)) _ _ (λ _ _. all_then 0 none (part 0 n (entries a b c d)) (ok (encode (part 0 n (entries a b c d)))) (λ bytes. ok (length bytes)))))

  -- what is known of stores that are written
  pub record Encoded (bytes : List ℕ) : Type 0 where
    pub few : n ≤ max_count
    pub inside : n ≤ length (entries a b c d)
    pub valid : Valid 0 (stored n a b c d)
    pub codable : Codable 0 none (stored n a b c d)
    pub same : encode (stored n a b c d) ≡ bytes

  pub encoding-codable : (bytes : List ℕ) → encoding n a b c d ≡ ok bytes → Encoded bytes
  unfolding encoding
  encoding-codable bytes p =
      let k = counting-sound n a b c d (check_all 0 none (stored n a b c d) (ok (encode (stored n a b c d)))) bytes p in
      let s = all_codable 0 0 none (stored n a b c d) (ok (encode (stored n a b c d))) bytes (omega arith) k.2 in
      record { few = k.0; inside = rw entries-length k.1; valid = s.0; codable = s.1; same = ok-is s.2 }

  module _ (t : Typed a b c d) where
    -- what was written is read back, whatever follows it
    pub written_read : (room : Option ℕ) (bytes rest : List ℕ) → roomy room n ≡ true → encoding n a b c d ≡ ok bytes
        → decode room (bytes ++ rest) ≡ ok (stored n a b c d, length bytes)
    written_read room bytes rest r p =
        let e = encoding-codable bytes p in
        let narrow : All Narrow (stored n a b c d) = rw stored-part (all-part Narrow 0 n (entries a b c d) (all-narrow a b c d t)) in
        let l : length (stored n a b c d) ≡ n = ap length (stored-part n a b c d) ∙ part_length (entries a b c d) 0 n e.inside ∙ omega arith in
        rw e.same at (decode-encode room (stored n a b c d) rest (omega (arith, e.few)) (rw l r) (codable-fits 0 0 none (stored n a b c d) e.codable e.valid narrow) e.valid)

pub ruleset measuring = (counted, length_is)

-- ---- the outcomes of writing into a buffer

module _ (n : ℕ) (a b c d old : List ℕ) where
  -- an answer, and what the buffer holds then
  abbrev pub Answered : Out ℕ → List ℕ → Type 0
  Answered r new =
      (r ≡ length_of (writing n a b c d (length old))) × (new ≡ afterwards (writing n a b c d (length old)) old (λ bytes. laid bytes old))

  pub write-bad : {k : ℕ} → bad k ≡ length_of (encoding n a b c d) → Answered (bad k) old
  unfolding writing
  write-bad {k = k} h = rw (no_value (encoding n a b c d) length k h) (refl, refl)

  module _ {m : ℕ} (h : ok m ≡ length_of (encoding n a b c d)) where
    bytes : (bytes : List ℕ) × (encoding n a b c d ≡ ok bytes) × (length bytes ≡ m)
    bytes = let k = bind_ok (encoding n a b c d) (λ bytes. ok (length bytes)) m (sym h) in (k.0, k.1, ok-is k.2)

    pub write-short : length old < m → Answered (bad 15) old
    unfolding writing
    write-short s = rw (bytes.1, lt-leb (length bytes.0) (length old) (omega (arith, bytes.2))) (refl, refl)

    module _ (s : m ≤ length old) where
      the-bytes : encode (part 0 n (entries a b c d)) ≡ bytes.0
      the-bytes = ap encode (sym (stored-part n a b c d)) ∙ (encoding-codable n a b c d bytes.0 bytes.1).same

      pub write-ready : Ready 0 n (entries a b c d) × (length (encode (part 0 n (entries a b c d))) ≤ length old)
      write-ready =
          let e = encoding-codable n a b c d bytes.0 bytes.1 in
          (record { order = omega arith; few = e.few; inside = e.inside; codable = rw stored-part at e.codable }, omega (arith, ap length the-bytes, bytes.2))

      pub write-ok : (new : List ℕ) → new ≡ sets old 0 (encode (part 0 n (entries a b c d))) → Answered (ok m) new
      unfolding writing
      write-ok new w =
          rw (bytes.1, le-leb (length bytes.0) (length old) (omega (arith, bytes.2)))
          (ap ok (sym bytes.2), w ∙ ap (sets old 0) the-bytes ∙ landing bytes.0 old (omega (arith, bytes.2)))
