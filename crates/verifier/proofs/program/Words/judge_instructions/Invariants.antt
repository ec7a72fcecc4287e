use Rattle.safety.proofs.PassLaws.{Passed}
use Rattle.verifier.proofs.program.Words.judge_instructions.Given as goal

abbrev pub invariant-loop-i : goal.invariant-loop-i
invariant-loop-i l = Passed l.version l.self.bytes.now l.annotations l.self.n l.i
