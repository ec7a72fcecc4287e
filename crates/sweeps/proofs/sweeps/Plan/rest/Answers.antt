use native.Mathlib.Omega.{arith}
use borrow.Author.Rules.{rules}
use Rattle.sweeps.proofs.LoopLaws.{within, goes_on, stops}
use Rattle.sweeps.proofs.sweeps.Plan.rest.Goals as goal

pub returns-then-not-take_over : goal.returns-then-not-take_over
returns-then-not-take_over c p h b = stops b (c.loop-k.invariant.2 p h b) c.sweep.ensures c.take_over-in-loop-k.ensures.changed (c.if-not-take_over.true) c.take_over-in-loop-k.ensures.kept

pub loop-k-preserved : goal.loop-k-preserved
loop-k-preserved c = (
  search rules,
  search rules,
  λ p h b. goes_on b (c.loop-k.invariant.2 p h b) c.sweep.ensures c.take_over-in-loop-k.ensures.changed (c.if-not-take_over.false) c.take_over-in-loop-k.ensures.kept,
)

pub returns : goal.returns
returns c p h b = absurd (omega (arith, within b (c.loop-k.invariant.2 p h b)))
