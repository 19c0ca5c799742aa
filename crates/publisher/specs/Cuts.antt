-- How a call goes through the parts of the plan. Assumes nothing.
use Rattle.std.specs.Prelude.{ℕ, ◌-◌, ◌≡◌, List, length}
use Rattle.publisher.specs.Plan.{Store, stored_from}
use Rattle.publisher.specs.declared.sections.Cut.{Cut}

-- behind a part of n stores, a call that skips `skip` and may do `left` skips and may do what this says
unfoldable pub past : ℕ → Cut → Cut
past n c = record { skip = c.skip - n; left = c.left - (n - c.skip) }

-- what the stores that a call does of a part leave
abbrev pub stored_by : Cut → List Store → List ℕ → List ℕ
stored_by c ss dest = stored_from c.skip c.left ss dest

-- a call that stood at c before a part has done its stores, and stands at c' behind it
pub record Done (ss : List Store) (c : Cut) (dest : List ℕ) (c' : Cut) (dest' : List ℕ) : Type 0 where
  pub stands : c' ≡ past (length ss) c
  pub leaves : dest' ≡ stored_by c ss dest
