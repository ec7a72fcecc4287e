use mathlib.Core.Path.{sym, ◌∙◌}
use borrow.Author.Rules.{rules}
use Rattle.bits.specs.Halves.{lower, upper}
use Rattle.sweeps.proofs.LoopLaws.{low_enough, more_of_both}
use Rattle.sweeps.proofs.sweeps.rest.Goals as goal

pub returns-then-version-eq1 : goal.returns-then-version-eq1
returns-then-version-eq1 c p e b = low_enough b (e ∙ c.if-version-eq1.true) (c.rest-low.ensures p lower b.low) _

pub returns : goal.returns
returns c p e b =
    more_of_both b (λ z. c.if-version-eq1.false (sym e ∙ z)) (c.rest-low.ensures p lower b.low) (c.rest-high.ensures p upper b.high) (search rules)
