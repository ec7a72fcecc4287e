use mathlib.Core.Path.{sym, ap, ◌∙◌}
use Rattle.differences.specs.Answers.{ready_outcome}
use Rattle.diff.proofs.AnswerLaws.{are_both}
use Rattle.differ.proofs.compare.Goals as goal

pub list-requires : goal.list-requires
list-requires g c =
    (c.requires, are_both c.args.first.now c.args.second.now (ap ready_outcome (sym c.in-Ok.is) ∙ c.both_read.ensures))
