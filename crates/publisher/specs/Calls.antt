-- Calls of publication, one after the other. Assumes nothing.
use Rattle.std.specs.Prelude.{ℕ, ◌+◌, ◌-◌, ◌^◌, ◌≤◌, List, [], ◌∷◌, length}
use Rattle.refusal.specs.Out.{Out, ok, ◌>>=◌}
use Rattle.header.specs.Header.{max_compression, max_type}
use Rattle.acceptance.specs.declared.Counts.{Counts}
use Rattle.publisher.specs.declared.Settings.{Settings}
use Rattle.publisher.specs.Plan.{Store, stored_from, stores}
use Rattle.publisher.specs.Publish.{publishing, total}

-- what a publication into a destination of n bytes must meet, for r, m, d and l bytes of root, metadata, data and leaves
pub record Accepted (s : Settings) (r m d l n : ℕ) : Type 0 where
  pub compression : s.tile_compression ≤ max_compression
  pub type : s.tile_type ≤ max_type
  pub sum : total r m d l ≤ 2 ^ 64 - 1
  pub root : r ≤ 16257
  pub room : 16384 + m + d + l ≤ n

-- all that is published
pub record Parts : Type 0 where
  pub settings : Settings
  pub counts : Counts
  pub root : List ℕ
  pub metadata : List ℕ
  pub tiles : List ℕ
  pub leaves : List ℕ

abbrev pub stores_of : Parts → List Store
stores_of x = stores x.settings x.counts x.root x.metadata x.tiles x.leaves

abbrev pub total_of : Parts → ℕ
total_of x = total (length x.root) (length x.metadata) (length x.tiles) (length x.leaves)

-- they may be published into a destination
abbrev pub AcceptedFor : Parts → List ℕ → Type 0
AcceptedFor x dest = Accepted x.settings (length x.root) (length x.metadata) (length x.tiles) (length x.leaves) (length dest)

-- between calls: the position that the last one returned, and what stands in the destination
pub record Standing : Type 0 where
  pub position : ℕ
  pub dest : List ℕ

-- a call at that position, with a budget
abbrev pub calling : Parts → ℕ → Standing → Out Standing
calling x budget now =
    publishing x.settings (length x.root) (length x.metadata) (length x.tiles) (length x.leaves) (length now.dest) now.position budget
    >>= λ next. ok (record { position = next; dest = stored_from now.position budget (stores_of x) now.dest })

-- calls with budgets in a row
abbrev pub calls : Parts → List ℕ → Standing → Out Standing
calls x [] now = ok now
calls x (budget ∷ budgets) now = calling x budget now >>= calls x budgets

abbrev pub sum : List ℕ → ℕ
sum [] = 0
sum (b ∷ bs) = b + sum bs
