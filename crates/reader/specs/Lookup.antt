-- Lookup of a tile in an archive's bytes. Assumes nothing.
use Rattle.std.specs.Prelude.{ℕ, zero, suc, List, length}
use Rattle.std.proofs.Math.Option.{Option, none, some}
use Rattle.refusal.specs.Out.{Out, ok, bad, ◌>>=◌, need}
use Rattle.tile.specs.Answers.{is_id, to_id}
use Rattle.directory.specs.Entries.{Entry}
use Rattle.directory.specs.Search.{Hit, absent, find_in, leaf, tile}
use Rattle.reader.specs.Ranges.{Range, Sections, opened, part, range_in_lem}

-- a tile that is found
abbrev pub located : Out Range → Out (Option Range)
located x = x >>= λ r. ok (some r)

-- what a search's answer leads to: nothing, the tile's range, or what a pointer leads to
abbrev pub on_hit : Sections → ℕ → (Entry → Out (Option Range)) → Hit → Out (Option Range)
on_hit s total next absent = ok none
on_hit s total next (tile e) = located (range_in_lem s.tiles total e)
on_hit s total next (leaf e) = next e

-- a directory's bytes are searched, and then, for a pointer, those of its leaf; at most n directories more
abbrev pub descend : ℕ → Sections → List ℕ → ℕ → List ℕ → Out (Option Range)
descend zero s a t bs = find_in bs t >>= on_hit s (length a) (λ e. bad 18)
descend (suc n) s a t bs =
    find_in bs t >>= on_hit s (length a) (λ e. range_in_lem s.leaves (length a) e >>= λ r. descend n s a t (part a r))

-- the tile's range, or none: a root and at most three leaves below it
unfoldable pub lookup : List ℕ → ℕ → Out (Option Range)
lookup a t = need (is_id t) 7 (opened a >>= λ s. descend 3 s a t (part a s.root))

unfoldable pub lookup_coord_lem : List ℕ → ℕ → ℕ → ℕ → Out (Option Range)
lookup_coord_lem a z x y = to_id z x y >>= lookup a
