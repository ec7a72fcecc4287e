use native.Mathlib.Omega.{arith}
use Rattle.replayer.proofs.ReplayingLaws.{roomy, few_run, answered, left_is, counted}
use Rattle.replayer.proofs.answer.Goals as goal

pub load_registers-requires : goal.load_registers-requires
load_registers-requires g c = roomy c.requires.0

pub rows_wanted-n-requires : goal.rows_wanted-n-requires
rows_wanted-n-requires g c = few_run c.requires.0 c.requires.1 c.load_registers.ensures c.replay-a.ensures.answer

pub write_rows-k-requires : goal.write_rows-k-requires
write_rows-k-requires g c = (c.requires.0, c.requires.1, counted c.requires.0 c.requires.1 c.load_registers.ensures c.replay-a.ensures.answer c.rows_wanted-n.ensures)

pub write_answer-requires : goal.write_answer-requires
write_answer-requires g c =
    let p = c.requires in
    (p.0, omega (arith, counted p.0 p.1 c.load_registers.ensures c.replay-a.ensures.answer c.rows_wanted-n.ensures, c.write_rows-k.ensures, c.if-k-n.false), answered p.0 p.1 c.load_registers.ensures c.replay-a.ensures.answer, left_is p.0 p.1 c.load_registers.ensures c.replay-a.ensures.left, p.1.trace)
