use mathlib.Core.Path.{sym, ap, ◌∙◌}
use mathlib.Core.List.{List}
use Rattle.bits.specs.Lists.{kth}
use Rattle.differences.specs.declared.line.Line.{Line}
use Rattle.diff.proofs.AnswerLaws.{after_version, version_first, version_before}
use Rattle.diff.proofs.list_line.Goals as goal

pub returns-in-Some : goal.returns-in-Some
returns-in-Some c = sym (version_first c.args.first.now c.args.second.now c.in-Some.ensures c.args.k c.if-k-eq0.true)

pub returns-in-Some-2 : goal.returns-in-Some-2
returns-in-Some-2 c =
    c.content_line.ensures
    ∙ version_before c.args.first.now c.args.second.now c.in-Some-2.ensures c.args.k c.if-k-eq0.false

pub returns-in-None : goal.returns-in-None
returns-in-None c =
    c.content_line-in-None.ensures
    ∙ ap (λ (ls : List Line). kth ls c.args.k) (after_version c.args.first.now c.args.second.now c.in-None.ensures)
