use native.Mathlib.Omega.{arith}
use Rattle.runbytes.proofs.NumberLaws.{four}
use Rattle.runbytes.proofs.number_at.Goals as goal

pub returns : goal.returns
returns c = omega (arith, four c.args.bytes.now c.args.start c.requires, c.from_le_bytes.ensures)
