use mathlib.Core.Path.{ap, ◌∙◌}
use Rattle.bits.specs.Sets.{lowest}
use Rattle.judge.proofs.JudgeLaws.{left_over}
use borrow.Author.Rules.{rules}
use Rattle.judge.proofs.lowest_stray.Goals as goal

pub returns : goal.returns
returns c = c.lowest.ensures.0 ∙ ap lowest c.missing.ensures ∙ left_over c.args.w (search rules) c.args.l c.requires
