use mathlib.Core.Path.{ap, ◌∙◌}
use native.Mathlib.Omega.{arith}
use Rattle.bits.specs.Sets.{lowest}
use Rattle.bits.proofs.SetLaws.{lowest_in}
use Rattle.safety.proofs.verdict.none_of.Goals as goal

pub half_told-requires : goal.half_told-requires
half_told-requires c =
    let any = c.either-any.result in
    let low = lowest_in any (omega arith) (omega (arith, c.if-any-eq0.false)) in
    (c.lowest-r.ensures.0 ∙ ap lowest c.either-any.ensures, omega (arith, low.0, c.lowest-r.ensures.0))
