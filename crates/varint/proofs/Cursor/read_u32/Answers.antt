-- `varint::Cursor::read_u32` meets its contract: what the narrow width holds fits a u32. Assumes nothing.
use mathlib.Core.Path.{sym}
use Rattle.varint.specs.Varint.{narrow}
use Rattle.varint.proofs.Reading.{bound_at}
use Rattle.varint.proofs.Cursor.read_u32.Goals as goal

pub overflow_cast-result : goal.overflow_cast-result
overflow_cast-result c = record { fits = bound_at narrow _ _ (sym c.in_ok-n.ensures) (λ k. (c.type_inv.s k).fits) }
