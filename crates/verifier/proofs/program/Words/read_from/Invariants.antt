use mathlib.Core.Path.{◌≡◌}
use Rattle.bits.specs.Outcomes.{passes, first}
use Rattle.safety.specs.Verdict.{judge_word}
use Rattle.verifier.proofs.program.Words.read_from.Given as goal

abbrev pub invariant-loop-i : goal.invariant-loop-i
invariant-loop-i l = first (judge_word l.self.bytes.now) l.i ≡ passes
