use mathlib.Core.Path.{ap, ap₂, ◌∙◌}
use Rattle.bits.specs.Sets.{minus, union}
use Rattle.bits.specs.Halves.{halves}
use Rattle.bits.specs.declared.halves.Halves.{Halves}
use Rattle.safety.specs.Program.{after}
use Rattle.flow.proofs.after.Goals as goal

pub returns : goal.returns
unfolding after
returns c =
    let a = c.args in
    let f = c.fills-f.ensures in
    ap₂ halves (ap₂ union (c.missing.ensures ∙ ap (minus a.held.low) c.requires) (ap (λ (s : Halves). s.low) f))
    (ap₂ union (c.missing-2.ensures ∙ ap (minus a.held.high) c.requires) (ap (λ (s : Halves). s.high) f))
