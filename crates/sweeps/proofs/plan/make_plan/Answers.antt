use mathlib.Core.Path.{refl, sym, ap, ◌∙◌}
use borrow.Author.Rules.{rules}
use lib.ListN.{length-set}
use Rattle.bits.specs.Halves.{lower, upper}
use Rattle.bits.specs.Outcomes.{first}
use Rattle.reader.specs.Answers.{reading}
use Rattle.safety.proofs.PassLaws.{read_on}
use Rattle.sweeps.proofs.PlanLaws.{planned_none, planned_more, sized_set, sized_with, one_unread}
use Rattle.sweeps.proofs.plan.make_plan.Goals as goal

pub loop-i-init : goal.loop-i-init
unfolding first
loop-i-init c =
    let a = c.args in
    (search rules, search rules, refl, planned_none a.version a.words.now a.n lower _ _ _ _, planned_none a.version a.words.now a.n upper _ _ _ _)

pub returns-in-Err-clause-outcome : goal.returns-in-Err-clause-outcome
returns-in-Err-clause-outcome c =
    one_unread c.args.words.now c.loop-i.invariant.2 c.loop-i-test.true (ap reading (sym c.in-Err.is) ∙ c.reading_at.ensures) c.refused.ensures

pub loop-i-preserved : goal.loop-i-preserved
loop-i-preserved c =
    let a = c.args in
    let l = c.loop-i in
    let t = c.loop-i-test.true in
    let e = ap reading (sym c.in-Ok.is) ∙ c.reading_at.ensures in (
      sized_set l.i _ _ _ _ l.invariant.0,
      length-set l.highs l.i _ ∙ l.invariant.1,
      read_on a.words.now l.i l.invariant.2 e,
      planned_more a.version a.words.now a.n lower t l.invariant.0 l.invariant.3 e c.step_of-s.ensures,
      planned_more a.version a.words.now a.n upper t (sized_with l.invariant.0 l.invariant.1) l.invariant.4 e c.step_of-s.ensures,
    )
