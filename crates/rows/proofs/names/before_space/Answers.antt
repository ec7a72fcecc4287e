use mathlib.Core.Path.{◌∙◌}
use Rattle.std.proofs.Common.{rules, tests}
use Rattle.std.proofs.lemmas.Iterator.{YieldsList-from_slice}
use Rattle.std.proofs.lemmas.Iterator.Search.{position_from_yields_List}
use Rattle.rows.proofs.NameLaws.{is_space, before_found}
use Rattle.rows.proofs.names.before_space.Goals as goal

pub returns : goal.returns
returns c =
    let e = position_from_yields_List is_space _ _ c.position.result c.position.ensures.ran (YieldsList-from_slice c.args.s cc) (λ x b q k. search (rules, tests)) in
    c.unwrap_or.ensures ∙ before_found c.args.s (search rules) e
