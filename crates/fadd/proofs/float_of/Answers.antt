use mathlib.Core.Path.{sym}
use native.Mathlib.Omega.{arith}
use lib.Ieee.{div, of_bits, of_fields, odd}
use Rattle.fadd.proofs.NanLaws.{nan_above, number_below}
use Rattle.fadd.proofs.float_of.Goals as goal

pub float_from_bits-result : goal.float_from_bits-result
float_from_bits-result c = number_below c.args.b (omega arith)

pub returns-then-b-gt2139095040 : goal.returns-then-b-gt2139095040
unfolding div of_bits of_fields odd
returns-then-b-gt2139095040 c = sym (nan_above c.args.b (omega arith))
