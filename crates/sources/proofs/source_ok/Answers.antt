use mathlib.Core.Path.{◌∙◌}
use Rattle.rows.proofs.SourceLaws.{source_low, source_high}
use Rattle.sources.proofs.source_ok.Goals as goal

pub returns-then-b-lt224 : goal.returns-then-b-lt224
returns-then-b-lt224 c = source_low c.args.page c.args.b c.if-b-lt224.true

pub returns : goal.returns
returns c =
    let a = c.args in
    c.is_special.ensures ∙ source_high a.page a.b c.if-b-lt224.false
