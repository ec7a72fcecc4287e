use mathlib.Core.Path.{ap, ◌∙◌}
use Rattle.bits.specs.declared.halves.Halves.{Halves}
use Rattle.safety.specs.Program.{annotation_at}
use Rattle.safety.specs.Verdict.{none_missing}
use Rattle.safety.proofs.VerdictLaws.{outside_to, inside_to}
use Rattle.flow.proofs.Notes.judge_successor.Goals as goal

pub returns-then-self-j : goal.returns-then-self-j
returns-then-self-j c =
    let a = c.args in
    c.refused.ensures ∙ outside_to a.self.n (annotation_at a.self.version a.self.bytes.now) a.i a.held a.j c.if-self-j.true

pub returns : goal.returns
returns c =
    let a = c.args in
    c.none_missing.ensures ∙ ap (λ (m : Halves). none_missing 22 a.i m a.held) c.at.ensures
    ∙ inside_to a.self.n (annotation_at a.self.version a.self.bytes.now) a.i a.held a.j c.if-self-j.false
