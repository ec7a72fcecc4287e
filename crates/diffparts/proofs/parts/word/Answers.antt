use native.Mathlib.Omega.{arith}
use Rattle.diffparts.proofs.PartLaws.{word_ends}
use Rattle.diffparts.proofs.parts.word.Goals as goal

pub overflow_mul-start : goal.overflow_mul-start
overflow_mul-start c = omega (arith, word_ends _ c.requires.0 c.format-f.ensures c.args.i c.requires.1)

pub overflow_add-start : goal.overflow_add-start
overflow_add-start c = omega (arith, word_ends _ c.requires.0 c.format-f.ensures c.args.i c.requires.1)

pub overflow_add-end : goal.overflow_add-end
overflow_add-end c = omega (arith, word_ends _ c.requires.0 c.format-f.ensures c.args.i c.requires.1)

pub slice_bounds-load64-end : goal.slice_bounds-load64-end
slice_bounds-load64-end c = omega (arith, word_ends _ c.requires.0 c.format-f.ensures c.args.i c.requires.1)
