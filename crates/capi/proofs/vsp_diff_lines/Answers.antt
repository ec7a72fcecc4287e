use mathlib.Core.Path.{sym, ap, ◌∙◌}
use native.Mathlib.Omega.{arith}
use Rattle.differences.specs.Answers.{listed_outcome}
use Rattle.diff.proofs.AnswerLaws.{list_few}
use Rattle.differences.proofs.RefusalLaws.{list_early}
use Rattle.capi.proofs.vsp_diff_lines.Goals as goal

pub overflow_mul-result : goal.overflow_mul-result
overflow_mul-result c =
    let e = list_few c.args.first.now c.args.second.now (sym c.diff_lines.ensures.answer ∙ ap listed_outcome c.in-Ok.is) in
    record { fits = omega (arith, e) }

pub unread_code-requires : goal.unread_code-requires
unread_code-requires c =
    let e = list_early c.args.first.now c.args.second.now (sym c.diff_lines.ensures.answer ∙ ap listed_outcome c.in-Err.is) in
    (omega (arith, e.index), omega (arith, e.register))
