-- Entries that the builder took, and parts of them, can be written and read back. Assumes nothing.
use Prim.Native.Nat.{ℕ, zero, suc, ◌+◌, ◌-◌, ◌^◌, ◌≤◌, ◌<◌}
use mathlib.Core.Path.{◌≡◌}
use mathlib.Core.Bool.{true}
use mathlib.Core.List.{List, [], ◌∷◌, ◌++◌}
use mathlib.Core.Option.{Option, none, some}
use native.Mathlib.Omega.{arith}
use lib.ListN.{drop, length, length-drop, length-take, take}
use lib.Seq.{take-take}
use Rattle.refusal.specs.Out.{ok}
use Rattle.directory.specs.Entries.{Entry, Valid, after, max_count}
use Rattle.directory.specs.Columns.{entries, roomy}
use Rattle.directory.specs.Decode.{decode}
use Rattle.directory.specs.Encode.{Fitting, encode}
use Rattle.directory.specs.Search.{All}
use Rattle.directory.proofs.Round.{decode-encode}
use Rattle.acceptance.specs.Accept.{Accepts, Taken, accepting}
use Rattle.acceptance.proofs.Accepts.{accepting-sound}
use Rattle.writer.specs.Stock.{Narrow, Stock, Typed}
use Rattle.writer.specs.Cells.{Codable, Ready, part}
use Rattle.writer.proofs.Coded.{codable-fits}
use Rattle.writer.proofs.Codes.{code-le}
use Rattle.writer.proofs.Parts.{part_length, stored-part}
use Rattle.writer.proofs.Typed.{all_drop, all-narrow, all-part, all_take}

pub weaken : (lo lo' : ℕ) (es : List Entry) → lo' ≤ lo → Valid lo es → Valid lo' es
weaken lo lo' [] h v = tt
weaken lo lo' (e ∷ es) h v =
    let low : lo ≤ e.id = v.0.low in (record { full = v.0.full; low = omega arith; top = v.0.top; end = v.0.end }, v.1)

valid-take : (lo k : ℕ) (es : List Entry) → Valid lo es → Valid lo (take k es)
valid-take lo zero es v = tt
valid-take lo (suc k) [] v = tt
valid-take lo (suc k) (e ∷ es) v = (v.0, valid-take (after e) k es v.1)

valid-drop : (lo k : ℕ) (es : List Entry) → Valid lo es → Valid 0 (drop k es)
valid-drop lo zero es v = weaken lo 0 es (omega arith) v
valid-drop lo (suc k) [] v = tt
valid-drop lo (suc k) (e ∷ es) v = valid-drop (after e) k es v.1

module _ (k : ℕ) (es : List Entry) (s : Stock es) where
  pub stock-take : Stock (take k es)
  stock-take =
      record {
        accepts =
            record {
              few = rw length-take (omega (arith, s.accepts.few));
              valid = valid-take 0 k es s.accepts.valid;
              taken = all_take (Taken (2 ^ 64 - 1)) k es s.accepts.taken;
            };
        narrow = all_take Narrow k es s.narrow;
      }

  pub stock-drop : Stock (drop k es)
  stock-drop =
      record {
        accepts =
            record {
              few = rw length-drop (omega (arith, s.accepts.few));
              valid = valid-drop 0 k es s.accepts.valid;
              taken = all_drop (Taken (2 ^ 64 - 1)) k es s.accepts.taken;
            };
        narrow = all_drop Narrow k es s.narrow;
      }

codable : (lo prev : ℕ) (p : Option ℕ) (es : List Entry) → prev ≤ lo → Valid lo es → All (Taken (2 ^ 64 - 1)) es → Codable prev p es
codable lo prev p [] h v t = tt
codable lo prev p (e ∷ es) h v t =
    let full : 0 < e.len = v.0.full in
    let low : lo ≤ e.id = v.0.low in
    let fit : e.off + e.len ≤ 2 ^ 64 - 1 = t.0.in_data in
    ((omega arith, omega (arith, code-le p e.off)), codable (after e) e.id (some (e.off + e.len)) es (omega arith) v.1 t.1)

module _ (es : List Entry) (s : Stock es) where
  stock-fits : Fitting 0 none es
  stock-fits = codable-fits 0 0 none es (codable 0 0 none es (omega arith) s.accepts.valid s.accepts.taken) s.accepts.valid s.narrow

  -- written as a directory, they are read back
  pub stock-read : (room : Option ℕ) (rest : List ℕ) → roomy room (length es) ≡ true → decode room (encode es ++ rest) ≡ ok (es, length (encode es))
  stock-read room rest r = decode-encode room es rest s.accepts.few r stock-fits s.accepts.valid

module _ (n : ℕ) (es : List Entry) (inside : n ≤ length es) (a : Accepts (2 ^ 64 - 1) (part 0 n es)) where
  pub accepts-few : n ≤ max_count
  accepts-few = omega (arith, part_length es 0 n inside, a.few)

  pub accepts-ready : (from to : ℕ) → from ≤ to → to ≤ n → Ready from to es
  unfolding part
  accepts-ready from to h k =
      let t = take to (take n es) in
      let c = codable 0 0 none (drop from t) (omega arith) (valid-drop 0 from t (valid-take 0 to (take n es) a.valid))
      (all_drop (Taken (2 ^ 64 - 1)) from t (all_take (Taken (2 ^ 64 - 1)) to (take n es) a.taken)) in
      record {
        order = h;
        few = omega (arith, accepts-few);
        inside = omega arith;
        codable = rw take-take at c;
      }

all-data : (size : ℕ) (es : List Entry) → size < 2 ^ 64 → All (Taken size) es → All (Taken (2 ^ 64 - 1)) es
all-data size [] h t = tt
all-data size (e ∷ es) h t = let fit : e.off + e.len ≤ size = t.0.in_data in (record { covers = t.0.covers; in_data = omega arith }, all-data size es h t.1)

-- and what is accepted for data of some size
pub any-size : (size : ℕ) (es : List Entry) → size < 2 ^ 64 → Accepts size es → Accepts (2 ^ 64 - 1) es
any-size size es h a = record { few = a.few; valid = a.valid; taken = all-data size es h a.taken }

-- what is accepted from typed stores is such a stock
pub accepted-stock : (n : ℕ) (a b c d : List ℕ) (size : ℕ) (es : List Entry) → Typed a b c d → size < 2 ^ 64 → accepting n a b c d size ≡ ok es → Stock es
accepted-stock n a b c d size es t h p =
    let s = accepting-sound n a b c d size es p in
    record {
      accepts = any-size size es h s.2;
      narrow = rw (← stored-part n a b c d, s.1) at (all-part Narrow 0 n (entries a b c d) (all-narrow a b c d t));
    }
