-- Writing a directory. Assumes nothing.
use Rattle.std.specs.Prelude.{ℕ, ◌+◌, ◌^◌, List, [], ◌∷◌, ltb}
use Rattle.std.proofs.Math.Option.{Option, none, some}
use Rattle.refusal.specs.Out.{Out, ok, need}
use Rattle.directory.specs.Entries.{Entry, after, check_one}
use Rattle.directory.specs.Encode.{code_of, encode}
use Rattle.directory.specs.Search.{counting, stored}

-- an entry's checks, where `lo` is the least id that may come and the entry before ends at p; then what comes next.
-- 12, 13, 14 as in reading; 11: the offset's code is above 2 ^ 64 - 1
abbrev pub check_coded_lem : {A : Type 0} → ℕ → Option ℕ → Entry → Out A → Out A
check_coded_lem lo p e x = check_one lo e (need (ltb (code_of p e.off) (2 ^ 64)) 11 x)

abbrev pub check_all : {A : Type 0} → ℕ → Option ℕ → List Entry → Out A → Out A
check_all lo p [] x = x
check_all lo p (e ∷ es) x = check_coded_lem lo p e (check_all (after e) (some (e.off + e.len)) es x)

-- the bytes of the first n entries of four stores
unfoldable pub encoding : ℕ → List ℕ → List ℕ → List ℕ → List ℕ → Out (List ℕ)
encoding n ids runs lens offs = counting n ids runs lens offs (check_all 0 none (stored n ids runs lens offs) (ok (encode (stored n ids runs lens offs))))
