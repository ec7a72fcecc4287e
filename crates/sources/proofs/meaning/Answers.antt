use mathlib.Core.Path.{◌∙◌}
use Rattle.rows.proofs.SourceLaws.{at_read, at_released, at_uniform, at_constant}
use Rattle.sources.proofs.meaning.Goals as goal

pub returns-then-b-lt64 : goal.returns-then-b-lt64
returns-then-b-lt64 c = at_read c.args.page c.args.b c.if-b-lt64.true

pub returns-then-b-lt128 : goal.returns-then-b-lt128
returns-then-b-lt128 c =
    let a = c.args in
    at_released a.page a.b c.if-b-lt64.false c.if-b-lt128.true

pub returns-then-b-lt192 : goal.returns-then-b-lt192
returns-then-b-lt192 c =
    let a = c.args in
    rw (c.from.ensures, c.from-then-b-lt192.ensures) (at_uniform a.page a.b c.if-b-lt128.false c.if-b-lt192.true)

pub returns : goal.returns
returns c =
    let a = c.args in
    c.constant.ensures ∙ at_constant a.page a.b c.if-b-lt192.false
