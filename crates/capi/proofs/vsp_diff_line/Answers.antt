use mathlib.Core.Path.{sym, ap, ◌∙◌}
use Rattle.std.specs.Prelude.{Ok}
use native.Mathlib.Omega.{arith}
use Rattle.differences.specs.Answers.{compared_outcome}
use Rattle.diff.proofs.AnswerLaws.{line_index}
use Rattle.differences.proofs.RefusalLaws.{line_early}
use Rattle.capi.proofs.vsp_diff_line.Goals as goal

pub line_numbers-requires : goal.line_numbers-requires
line_numbers-requires c =
    line_index c.args.first.now c.args.second.now c.args.k (sym c.diff_line.ensures ∙ ap compared_outcome (c.in-Ok-Some.is ∙ ap Ok c.in-Ok-Some.field-0-is))

pub unread_code-requires : goal.unread_code-requires
unread_code-requires c =
    let e = line_early c.args.first.now c.args.second.now c.args.k (sym c.diff_line.ensures ∙ ap compared_outcome c.in-Err.is) in
    (omega (arith, e.index), omega (arith, e.register))
