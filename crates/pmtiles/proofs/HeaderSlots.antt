-- Headers in lent slots. Assumes nothing.
use Rattle.std.proofs.Common.{◌≡◌, ℕ, true, List, take, refl, arith}
use Rattle.std.proofs.lemmas.Bool.Decides.{nat_tests}
use Rattle.std.specs.Prelude.{Float}
use Rattle.header.specs.Header.{write_header}
use Rattle.pmtiles.specs.Exports.{status}
use Rattle.pmtiles.specs.Headers.{byte_of, degrees_in_lem, fitting, header_in_lem, header_with, written_header}
use Rattle.pmtiles.proofs.Bytes.{byte_fits, byte_test, first_slots}

-- what the first slots give, and what all give

pub fitting-take : (ns : List ℕ) → fitting (take 19 ns) ≡ fitting ns
unfolding fitting
fitting-take ns = simp first_slots refl

pub degrees-take : (ds : List Float) → degrees_in_lem (take 6 ds) ≡ degrees_in_lem ds
unfolding degrees_in_lem
degrees-take ds = simp first_slots refl

pub header-take : (held : ℕ → ℕ) (ns : List ℕ) (ds : List Float) → header_with held (take 19 ns) (take 6 ds) ≡ header_with held ns ds
unfolding header_with
header-take held ns ds = simp (first_slots, degrees-take ds) refl

-- where the numbers fit, the bytes that stand for them are refused as they are, and else are the same
pub same_written : (ns : List ℕ) (ds : List Float) → fitting ns ≡ true → (room : ℕ) → written_header (header_with byte_of ns ds) room ≡ written_header (header_in_lem ns ds) room
unfolding write_header header_with fitting
same_written ns ds fit room = grind (arith, nat_tests, byte_fits, byte_test)

pub same_status : (ns : List ℕ) (ds : List Float) → fitting ns ≡ true → (room : ℕ) → status (write_header (header_with byte_of ns ds) room) ≡ status (written_header (header_in_lem ns ds) room)
unfolding write_header header_with fitting
same_status ns ds fit room = grind (arith, nat_tests, byte_fits, byte_test)

pub ruleset header_steps = (fitting-take, header-take, same_written, same_status)
