use Rattle.judge.proofs.TestLaws.{LegalBelow}
use Rattle.judge.proofs.judge_sources.Given as goal

abbrev pub invariant-loop-j : goal.invariant-loop-j
invariant-loop-j l = LegalBelow l.f l.fn.w l.j
