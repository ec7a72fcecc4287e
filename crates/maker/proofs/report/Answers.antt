use mathlib.Core.Path.{sym, ap, ◌∙◌}
use Rattle.bits.specs.Outcomes.{refuses}
use Rattle.maker.proofs.MakingLaws.{too_short}
use borrow.Author.Rules.{rules}
use Rattle.maker.proofs.report.Goals as goal

pub refuse-requires : goal.refuse-requires
refuse-requires g c = (c.requires, too_short _ (search rules) ∙ ap refuses (sym c.plain.ensures))
