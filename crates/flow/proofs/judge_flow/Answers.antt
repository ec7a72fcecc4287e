use mathlib.Core.Path.{refl, ap, ap₂, ◌∙◌}
use Rattle.bits.specs.Halves.{both as both_of}
use Rattle.bits.specs.declared.halves.Halves.{Halves}
use Rattle.bits.specs.Outcomes.{each}
use Rattle.bits.proofs.OutcomeLaws.{left_by, stops, goes_on}
use Rattle.safety.specs.Program.{successors, after, annotation_at}
use Rattle.safety.specs.Verdict.{none_missing, judge_successor, judge_flow}
use Rattle.flow.proofs.judge_flow.Goals as goal

pub returns-in_err-none_missing : goal.returns-in_err-none_missing
unfolding judge_flow
returns-in_err-none_missing c =
    let a = c.args in
    rw (
      left_by _ c.from_residual.ensures,
      stops _ (c.in_err-none_missing.ensures
          ∙ ap₂ (λ (x y : Halves). none_missing 20 a.i x y) (c.both.ensures ∙ ap both_of c.uses-u.ensures.0) c.at-before.ensures),
    ) refl

pub returns : goal.returns
unfolding judge_flow
returns c =
    let a = c.args in
    let m = annotation_at a.version a.annotations.now in
    rw (goes_on _ (c.in_ok-none_missing.ensures
    ∙ ap₂ (λ (x y : Halves). none_missing 20 a.i x y) (c.both.ensures ∙ ap both_of c.uses-u.ensures.0) c.at-before.ensures))
    (c.judge_successors.ensures ∙ ap (λ (k : Halves). each (judge_successor a.n m a.i (after a.version a.x k)) (successors a.x a.i)) c.at-before.ensures)
