use mathlib.Core.Path.{sym, ap, ◌∙◌}
use native.Mathlib.Omega.{arith}
use Rattle.rows.specs.Names.{name_of}
use Rattle.text.proofs.NameLaws.{no_name_put}
use Rattle.text.proofs.TextLaws.{same_text}
use Rattle.lacks.proofs.StrayLaws.{row_found, none_found}
use Rattle.lacks.proofs.put_row.Goals as goal

pub returns-in-Some : goal.returns-in-Some
returns-in-Some c =
    let p = c.put_name.ensures in
    (same_text (ap name_of (row_found c.args.w (sym c.in-Some.is ∙ c.line_of.ensures.answer))) p.0, p.1)

pub returns-in-None : goal.returns-in-None
returns-in-None c =
    let e = none_found c.args.w (sym c.in-None.is ∙ c.line_of.ensures.answer) in
    (no_name_put _ c.args.out.now (omega (arith, e)), omega arith)
