-- What a call of publication answers. Assumes nothing.
use Rattle.std.specs.Prelude.{ℕ, ◌+◌, ◌-◌, ◌^◌, min, leb}
use Rattle.refusal.specs.Out.{Out, ok, ◌>>=◌, need}
use Rattle.header.specs.Header.{max_compression, max_type}
use Rattle.publisher.specs.declared.Settings.{Settings}

-- how many stores there are, for so many bytes of root, metadata, data and leaves
abbrev pub total : ℕ → ℕ → ℕ → ℕ → ℕ
total r m d l = 16511 + m + d + l + r

-- 11: the total is above 2 ^ 64 - 1; 17: the root does not fit before the metadata
unfoldable pub totalling : ℕ → ℕ → ℕ → ℕ → Out ℕ
totalling r m d l = need (leb (total r m d l) (2 ^ 64 - 1)) 11 (need (leb r 16257) 17 (ok (total r m d l)))

-- 15: a destination of n bytes is too short for an archive of e bytes; 17: the position p is past the t stores.
-- The new position, for a budget of b
abbrev pub advancing : ℕ → ℕ → ℕ → ℕ → ℕ → Out ℕ
advancing e t n p b = need (leb e n) 15 (need (leb p t) 17 (ok (p + min b (t - p))))

-- the same with the tests before it: 4, 5 for the codes; 11, 17 by the lengths
unfoldable pub publishing : Settings → ℕ → ℕ → ℕ → ℕ → ℕ → ℕ → ℕ → Out ℕ
publishing s r m d l n p b =
    need (leb s.tile_compression max_compression) 4
    (need (leb s.tile_type max_type) 5
    (totalling r m d l >>= λ t. advancing (16384 + m + d + l) t n p b))
