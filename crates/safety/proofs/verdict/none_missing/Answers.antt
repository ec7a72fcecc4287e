use mathlib.Core.Path.{ap, ◌∙◌}
use Rattle.bits.specs.declared.halves.Halves.{Halves}
use Rattle.safety.specs.Verdict.{none_of, none_missing}
use Rattle.safety.proofs.verdict.none_missing.Goals as goal

pub returns : goal.returns
unfolding none_missing
returns c = c.none_of.ensures ∙ ap (λ (s : Halves). none_of c.args.number c.args.index s) c.missing_halves.ensures
