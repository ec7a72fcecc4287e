use mathlib.Core.Path.{sym, ap}
use native.Mathlib.Omega.{arith}
use Rattle.std.specs.Prelude.{Result}
use Rattle.run.specs.declared.Stop.{Stop}
use Rattle.safety.specs.declared.verdict.Finding.{Finding}
use Rattle.replay.specs.Replay.{replayed_outcome}
use Rattle.text.proofs.TextLaws.{same_text}
use Rattle.replaytext.specs.ReplayText.{answer_line}
use Rattle.replaytext.proofs.put_answer.Goals as goal

pub returns-in-Err : goal.returns-in-Err
unfolding answer_line
returns-in-Err c = (same_text (ap (λ (a : Result Stop Finding). answer_line (replayed_outcome a) c.args.registers.now c.args.trace.now) (sym c.in-Err.is)) c.put_verdict.ensures.0, omega (arith, c.put_verdict.ensures.1))
