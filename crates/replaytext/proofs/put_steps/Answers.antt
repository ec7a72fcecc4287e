use native.Mathlib.Omega.{arith}
use borrow.Author.Tests.{eq-eqb, ne_eqb}
use Rattle.rows.specs.Names.{ascii}
use Rattle.text.proofs.TextLaws.{same_text}
use Rattle.replaytext.proofs.put_steps.Goals as goal

pub returns-then-n-eq1 : goal.returns-then-n-eq1
unfolding ascii
returns-then-n-eq1 c = (same_text (rw (eq-eqb c.args.n 1 c.if-n-eq1.true)) c.put_enclosed.ensures.0, omega (arith, c.put_enclosed.ensures.1))

pub returns : goal.returns
unfolding ascii
returns c = (same_text (rw (ne_eqb c.args.n 1 c.if-n-eq1.false)) c.put_enclosed-2.ensures.0, omega (arith, c.put_enclosed-2.ensures.1))
