use Rattle.std.proofs.Common.{below_more}
use mathlib.Core.Path.{◌∙◌}
use native.Mathlib.Omega.{arith}
use Rattle.judge.proofs.TestLaws.{legal_byte, first_illegal, all_legal}
use Rattle.judge.proofs.judge_sources.Goals as goal

pub loop-j-init : goal.loop-j-init
loop-j-init c = λ i h. absurd (omega arith)

pub returns-then-not-source_ok : goal.returns-then-not-source_ok
returns-then-not-source_ok c =
    c.refuse.ensures
    ∙ first_illegal c.args.f c.args.w c.loop-j.j (omega arith) c.loop-j.invariant
    (legal_byte c.source_ok.ensures c.bits_at-page.ensures.0 c.bits_at.ensures.0 c.if-not-source_ok.true)

pub loop-j-preserved : goal.loop-j-preserved
loop-j-preserved c =
    below_more _ _ c.loop-j.invariant
    (legal_byte c.source_ok.ensures c.bits_at-page.ensures.0 c.bits_at.ensures.0 c.if-not-source_ok.false)

pub returns : goal.returns
returns c = all_legal c.args.f c.args.w (λ i h. c.loop-j.invariant i (omega arith))
