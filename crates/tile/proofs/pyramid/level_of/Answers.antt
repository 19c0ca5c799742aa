-- `pyramid::level_of` meets its contract. Assumes nothing.
use Prim.Native.Nat.{◌/◌}
use mathlib.Core.Path.{◌∙◌, ap}
use native.Mathlib.Omega.{arith}
use Rattle.tile.specs.Tile.{base}
use Rattle.tile.proofs.Zooms.{bases-right, zoom_log}
use Rattle.tile.proofs.pyramid.level_of.Goals as goal

pub returns : goal.returns
returns c =
    let e = c.ilog2.ensures in
    let z = zoom_log c.args.id c.ilog2.result c.requires e.bound (omega (arith, e.power_le)) (omega (arith, e.next_power_gt)) in
    (z, bases-right (c.ilog2.result / 2) (omega (arith, e.bound)) ∙ ap base z)
