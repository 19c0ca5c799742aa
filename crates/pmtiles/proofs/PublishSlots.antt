-- Publication by lent slots. Assumes nothing.
use Rattle.std.proofs.Common.{◌≡◌, ℕ, true, List, take, refl, arith}
use Rattle.std.proofs.lemmas.Bool.Decides.{nat_tests}
use Rattle.std.specs.Prelude.{Float}
use Rattle.refusal.specs.Out.{ok}
use Rattle.publisher.specs.Publish.{publishing}
use Rattle.pmtiles.specs.Headers.{byte_of}
use Rattle.pmtiles.specs.Publishes.{settings_in_lem, settings_with, zooms_fit_lem}
use Rattle.pmtiles.proofs.Bytes.{byte_fits, byte_test, first_slots}
use Rattle.pmtiles.proofs.HeaderSlots.{degrees-take}

-- what the first slots give, and what all give

pub zooms-take : (ns : List ℕ) → zooms_fit_lem (take 5 ns) ≡ zooms_fit_lem ns
unfolding zooms_fit_lem
zooms-take ns = simp first_slots refl

pub settings-take : (held : ℕ → ℕ) (ns : List ℕ) (ds : List Float) → settings_with held (take 5 ns) (take 6 ds) ≡ settings_with held ns ds
unfolding settings_with
settings-take held ns ds = simp (first_slots, degrees-take ds) refl

-- where the zooms fit, the bytes that stand for the settings are refused as they are, and else are the same

pub same_answer : (ns : List ℕ) (ds : List Float) (r m d l n p b : ℕ) → publishing (settings_with byte_of ns ds) r m d l n p b ≡ publishing (settings_in_lem ns ds) r m d l n p b
unfolding publishing settings_with
same_answer ns ds r m d l n p b = grind (arith, byte_test)

pub same_settings : (ns : List ℕ) (ds : List Float) (r m d l n p b k : ℕ) → publishing (settings_in_lem ns ds) r m d l n p b ≡ ok k → zooms_fit_lem ns ≡ true
    → settings_with byte_of ns ds ≡ settings_in_lem ns ds
unfolding publishing settings_with zooms_fit_lem
same_settings ns ds r m d l n p b k e fit = grind (arith, nat_tests, byte_fits)

pub ruleset publish_steps = (zooms-take, settings-take, same_answer, same_settings)
