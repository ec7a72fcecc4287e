use mathlib.Core.Path.{◌≡◌, refl, sym, ap, ◌∙◌}
use mathlib.Core.List.{[], ◌∷◌}
use native.Mathlib.Omega.{arith}
use Rattle.differences.specs.Differences.{version_lines}
use Rattle.diffparts.specs.Served.Parts.{single_told}
use Rattle.diff.proofs.AnswerLaws.{version_first}
use Rattle.differ.proofs.ComparingLaws.{line_in, versions_told, versions_same}
use Rattle.differ.proofs.send_all.Goals as goal

-- where there is a line of the versions
pub send_line-requires : goal.send_line-requires
send_line-requires g c =
    let told : c.in-Some.line ∷ [] ≡ version_lines c.args.first.now c.args.second.now = ap single_told (sym c.in-Some.is) ∙ c.version_line.ensures in
    (c.requires.0.all, line_in c.requires.0 0 (version_first c.args.first.now c.args.second.now told 0 refl))

pub walk-requires : goal.walk-requires
walk-requires g c =
    let told : c.in-Some.line ∷ [] ≡ version_lines c.args.first.now c.args.second.now = ap single_told (sym c.in-Some.is) ∙ c.version_line.ensures in
    let v = versions_told c.args.first.now c.args.second.now told in
    (c.requires.0, c.requires.1, v.0, v.1)

pub walk-requires-in-None : goal.walk-requires-in-None
walk-requires-in-None g c =
    (c.requires.0, c.requires.1, omega arith, versions_same c.args.first.now c.args.second.now (ap single_told (sym c.in-None.is) ∙ c.version_line.ensures))
