-- Varints: seven bits a byte, lowest group first; the top bit says that another byte follows. Assumes nothing.
use Rattle.std.specs.Prelude.{ℕ, zero, suc, ◌+◌, ◌-◌, ◌*◌, ◌/◌, ◌%◌, ◌^◌, cond, List, [], ◌∷◌, leb, ltb, length, drop}
use Rattle.refusal.specs.Out.{Out, ok, bad, ◌>>=◌, need}

-- how many bytes may stand before the last one that a number can have, and the largest that this last byte may be
pub record Width : Type 0 where
  pub before : ℕ
  pub cap : ℕ

-- 64 bits, and 32 bits
abbrev pub wide : Width
wide = record { before = 9; cap = 1 }

abbrev pub narrow : Width
narrow = record { before = 4; cap = 15 }

-- what a width holds is below this: 2 ^ 64, and 2 ^ 32
abbrev pub limit : Width → ℕ
limit w = (w.cap + 1) * 128 ^ w.before

-- ---- the meaning: bytes are consumed

-- the number, and the bytes after it
abbrev pub read_var : ℕ → ℕ → List ℕ → Out (ℕ × List ℕ)
read_var n cap [] = bad 8
read_var zero cap (b ∷ bs) = need (leb b cap) 9 (ok (b, bs))
read_var (suc n) cap (b ∷ bs) =
    cond (ltb b 128) (ok (b, bs)) (read_var n cap bs >>= λ (v, r). ok (b - 128 + 128 * v, r))

unfoldable pub read : Width → List ℕ → Out (ℕ × List ℕ)
read w bs = read_var w.before w.cap bs

-- the shortest form
abbrev pub put_var : ℕ → ℕ → List ℕ
put_var zero v = v ∷ []
put_var (suc n) v = cond (ltb v 128) (v ∷ []) ((128 + v % 128) ∷ put_var n (v / 128))

unfoldable pub put : Width → ℕ → List ℕ
put w v = put_var w.before v

-- ---- the same at a place of a list: the number, and the place after it

unfoldable pub read_at : Width → List ℕ → ℕ → Out (ℕ × ℕ)
read_at w s at = read w (drop at s) >>= λ (v, r). ok (v, length s - length r)
