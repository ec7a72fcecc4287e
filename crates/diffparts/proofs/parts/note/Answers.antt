use native.Mathlib.Omega.{arith}
use Rattle.diffparts.proofs.PartLaws.{note_ends}
use Rattle.diffparts.proofs.parts.note.Goals as goal

pub overflow_mul-start : goal.overflow_mul-start
overflow_mul-start c = omega (arith, note_ends _ c.requires.0 c.format-f.ensures c.args.n c.args.i c.requires.1 c.requires.2)

pub overflow_add-start : goal.overflow_add-start
overflow_add-start c = omega (arith, note_ends _ c.requires.0 c.format-f.ensures c.args.n c.args.i c.requires.1 c.requires.2)

pub overflow_mul-start-2 : goal.overflow_mul-start-2
overflow_mul-start-2 c = omega (arith, note_ends _ c.requires.0 c.format-f.ensures c.args.n c.args.i c.requires.1 c.requires.2)

pub overflow_add-start-2 : goal.overflow_add-start-2
overflow_add-start-2 c = omega (arith, note_ends _ c.requires.0 c.format-f.ensures c.args.n c.args.i c.requires.1 c.requires.2)

pub halves_in-requires : goal.halves_in-requires
halves_in-requires c = (note_ends _ c.requires.0 c.format-f.ensures c.args.n c.args.i c.requires.1 c.requires.2).0
