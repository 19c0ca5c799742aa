-- Two answers that meet a promise coincide: each answer is known by what it says. Assumes nothing.
use mathlib.Core.Path.{◌≡◌, refl}
use Rattle.std.specs.Prelude.{ℕ, Result}
use Rattle.refusal.specs.declared.Refusal.{Refusal}
use Rattle.refusal.proofs.Numbers.{one-said}
use Rattle.directory.specs.Entries.{Entry}
use Rattle.directory.specs.Answers.{entry_of, said_checked, said_entry, said_offset, said_read}
use Rattle.directory.specs.declared.DirEntry.{DirEntry}
use Rattle.directory.specs.declared.Offset.{Offset}

pub one-read : (a b : Result (ℕ × ℕ) Refusal) → said_read a ≡ said_read b → a ≡ b
one-read = one-said (λ x. x) (λ x. x) (λ x. refl)

pub one-checked : (a b : Result ℕ Refusal) → said_checked a ≡ said_checked b → a ≡ b
one-checked = one-said (λ lo. lo) (λ lo. lo) (λ lo. refl)

pub one-offset : (a b : Result Offset Refusal) → said_offset a ≡ said_offset b → a ≡ b
one-offset = one-said (λ o. o.0) (λ o. record { 0 = o }) (λ o. refl)

-- the entry as a function answers it
abbrev pub dir_entry : Entry → DirEntry
dir_entry e = record { tile_id = record { 0 = e.id }; run_length = e.run; length = e.len; offset = record { 0 = e.off } }

pub one_entry : (a b : Result DirEntry Refusal) → said_entry a ≡ said_entry b → a ≡ b
one_entry = one-said entry_of dir_entry (λ e. refl)
