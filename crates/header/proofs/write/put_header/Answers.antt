-- `put_header` meets its contract: the fields are as many bytes as there are, so they stand alone. Assumes nothing.
use mathlib.Core.Bool.{Bool, true, false}
use mathlib.Core.List.{List, ◌++◌, flatten}
use mathlib.Core.Path.{◌≡◌, refl, ap, ◌∙◌}
use Prim.Native.Nat.{ℕ}
use native.Mathlib.Omega.{arith}
use lib.ListN.{length}
use lib.Seq.{sets, sets-eq}
use mir.Val.{bool_byte}
use Rattle.std.proofs.lemmas.List.{append-nil, drop_all}
use Rattle.header.specs.Bytes.{bytes_of}
use Rattle.header.specs.Header.{flag, header_bytes, header_fields}
use Rattle.header.specs.declared.Header.{Header}
use Rattle.header.proofs.write.put_header.Goals as goal

flag-byte : (b : Bool) → bool_byte b ≡ flag b
flag-byte true = refl
flag-byte false = refl

alone : (h : Header) (l : List ℕ) → length l ≡ 127 → sets l 0 (header_bytes h) ≡ header_bytes h
unfolding flatten bytes_of header_fields header_bytes
alone h l n =
    sets-eq (header_bytes h) l 0 (omega arith)
    ∙ ap (λ (t : List ℕ). header_bytes h ++ t) (drop_all 127 l (omega arith))
    ∙ append-nil (header_bytes h)

pub returns : goal.returns
unfolding flatten bytes_of header_fields header_bytes
returns c =
    let a = c.args in
    let put : c.put_degrees.new.out ≡ sets a.out.now 0 (header_bytes a.h) =
    rw (c.put_degrees.ensures, c.put-2.ensures, c.put_numbers.ensures, c.put.ensures, c.from.ensures, flag-byte) in
    put ∙ alone a.h a.out.now c.told-out
