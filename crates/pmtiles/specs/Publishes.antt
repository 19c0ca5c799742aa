-- Publication by what lent slots give. Assumes nothing.
use Rattle.std.specs.Prelude.{ℕ, Bool, ◌&&◌, List, [], ◌∷◌, ◌≡◌, leb, Float, length}
use Rattle.refusal.specs.Out.{Out, afterwards, need}
use Rattle.acceptance.specs.declared.Counts.{Counts}
use Rattle.publisher.specs.Publish.{publishing}
use Rattle.publisher.specs.declared.Settings.{Settings}
use Rattle.pmtiles.specs.Exports.{filled, status, within}
use Rattle.pmtiles.specs.Headers.{degrees_in_lem, number_in}

-- a call for five settings, six degrees, two counts and one slot: 15 where fewer are lent, before all else
abbrev pub lent_all : {A : Type 0} → List ℕ → List Float → List ℕ → List ℕ → Out A → Out A
lent_all ns ds cs out x = need (leb 5 (length ns)) 15 (need (leb 6 (length ds)) 15 (need (leb 2 (length cs)) 15 (within 1 out x)))

-- where `held` is what a byte's field holds of a number
unfoldable pub settings_with : (ℕ → ℕ) → List ℕ → List Float → Settings
settings_with held ns ds =
    record {
      tile_compression = held (number_in ns 0);
      tile_type = held (number_in ns 1);
      min_zoom = held (number_in ns 2);
      max_zoom = held (number_in ns 3);
      degrees = degrees_in_lem ds;
      center_zoom = held (number_in ns 4);
    }

-- the settings that the slots give
abbrev pub settings_in_lem : List ℕ → List Float → Settings
settings_in_lem ns ds = settings_with (λ n. n) ns ds

-- the counts that the slots give, in the order in which building puts them
unfoldable pub counts_given : List ℕ → Counts
counts_given cs = record { n_tile_entries = number_in cs 0; n_addressed_tiles = number_in cs 1 }

-- the zooms fit a byte. A code needs no test of its own: publishing refuses it
unfoldable pub zooms_fit_lem : List ℕ → Bool
zooms_fit_lem ns = leb (number_in ns 2) 255 && (leb (number_in ns 3) 255 && leb (number_in ns 4) 255)

-- the call that the slots give, at position p with a budget of b: 1 where a zoom does not fit, then as `publishing` says
unfoldable pub publishing_given : List ℕ → List Float → List ℕ → List ℕ → List ℕ → List ℕ → List ℕ → List ℕ → List ℕ → ℕ → ℕ → Out ℕ
publishing_given ns ds cs out root metadata tiles leaves dest p b =
    lent_all ns ds cs out
    (need (zooms_fit_lem ns) 1 (publishing (settings_in_lem ns ds) (length root) (length metadata) (length tiles) (length leaves) (length dest) p b))

-- a call, where its stores leave `left`: the answer, and the destination and the slot before it and after it
pub record PublishTold (x : Out ℕ) (left : List ℕ) (answer : ℕ) (dest dest' out out' : List ℕ) : Type 0 where
  pub says : answer ≡ status x
  pub stored : dest' ≡ afterwards x dest (λ _. left)
  pub fills : out' ≡ filled x (λ p. p ∷ []) out
