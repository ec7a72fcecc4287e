use native.Mathlib.Omega.{arith}
use Rattle.container.proofs.OpeningLaws.{placed, opened_by}
use Rattle.container.proofs.parts.words.Goals as goal

pub overflow_mul-end : goal.overflow_mul-end
overflow_mul-end c = let z = placed c.args.bytes.now (opened_by c.open.ensures c.in-Ok.is) c.format_of-start.ensures in record { fits = omega (arith, z.few) }

pub overflow_add-end : goal.overflow_add-end
overflow_add-end c = let z = placed c.args.bytes.now (opened_by c.open.ensures c.in-Ok.is) c.format_of-start.ensures in omega (arith, z.words_end)

pub slice_bounds-result-end-2 : goal.slice_bounds-result-end-2
slice_bounds-result-end-2 c = let z = placed c.args.bytes.now (opened_by c.open.ensures c.in-Ok.is) c.format_of-start.ensures in omega (arith, z.words_end)
