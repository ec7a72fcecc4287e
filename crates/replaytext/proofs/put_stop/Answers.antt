use Rattle.rows.specs.Names.{ascii}
use mathlib.Core.Path.{sym, ap}
use Rattle.bits.specs.Outcomes.{gives}
use Rattle.run.specs.declared.Stop.{Stop}
use Rattle.text.proofs.TextLaws.{same_text}
use Rattle.replaytext.specs.ReplayText.{answer_line}
use Rattle.replaytext.proofs.put_stop.Goals as goal

pub returns-in-Differs : goal.returns-in-Differs
unfolding answer_line ascii
returns-in-Differs c = (same_text (ap (λ (s : Stop). answer_line (gives s) c.args.registers.now c.args.trace.now) (sym c.in-Differs.is)) c.put_differs.ensures.0, c.put_differs.ensures.1)

pub returns-in-Ended : goal.returns-in-Ended
unfolding answer_line ascii
returns-in-Ended c = (same_text (ap (λ (s : Stop). answer_line (gives s) c.args.registers.now c.args.trace.now) (sym c.in-Ended.is)) c.put_stopped.ensures.0, c.put_stopped.ensures.1)

pub returns-in-Limit : goal.returns-in-Limit
unfolding answer_line ascii
returns-in-Limit c = (same_text (ap (λ (s : Stop). answer_line (gives s) c.args.registers.now c.args.trace.now) (sym c.in-Limit.is)) c.put_stopped-in-Limit.ensures.0, c.put_stopped-in-Limit.ensures.1)
