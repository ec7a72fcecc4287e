use native.Mathlib.Omega.{arith}
use Rattle.diffparts.proofs.SingleLaws.{small}
use Rattle.diffparts.proofs.single.part_count.Goals as goal

pub overflow_add-result : goal.overflow_add-result
overflow_add-result c = omega (arith, small _ _ c.requires c.max.ensures c.set_count-sets.ensures c.min.ensures)

pub overflow_mul-result : goal.overflow_mul-result
overflow_mul-result c = omega (arith, small _ _ c.requires c.max.ensures c.set_count-sets.ensures c.min.ensures)

pub overflow_add-result-2 : goal.overflow_add-result-2
overflow_add-result-2 c = omega (arith, small _ _ c.requires c.max.ensures c.set_count-sets.ensures c.min.ensures)
