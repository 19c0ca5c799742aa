-- `varint::Cursor::write` meets its contract: no form is empty, so a place past the end has no room. Assumes nothing.
use native.Mathlib.Omega.{arith}
use Rattle.std.proofs.lemmas.Grind.{common_steps}
use Rattle.varint.specs.Varint.{wide}
use Rattle.varint.specs.Answers.{writing, written}
use Rattle.varint.proofs.Shortest.{put-size}
use Rattle.varint.proofs.Cursor.write.Goals as goal

pub put_at-requires : goal.put_at-requires
put_at-requires c = omega (arith, (put-size wide c.args.x).0)

pub returns : goal.returns
unfolding writing written
returns c = let some = (put-size wide c.args.x).0 in grind (arith, common_steps)
