use mathlib.Core.Path.{sym}
use Rattle.bits.proofs.OutcomeLaws.{left_by}
use Rattle.replay.specs.Replay.{asked}
use Rattle.replay.proofs.AnswerLaws.{by_check, by_length}
use Rattle.replay.proofs.replay.Goals as goal

pub returns-in_err-verify : goal.returns-in_err-verify
returns-in_err-verify c =
    let a = c.args in
    let r = by_check (asked a.bytes.now a.registers.now a.uniforms.now a.trace.now a.limit) c.in_err-verify.ensures.verdict in
    record { answer = rw (left_by _ c.from_residual.ensures) r.answer; left = r.registers }

pub returns-then-trace-ne0 : goal.returns-then-trace-ne0
returns-then-trace-ne0 c =
    let a = c.args in
    let r = by_length (asked a.bytes.now a.registers.now a.uniforms.now a.trace.now a.limit) (sym c.in_ok-verify.ensures.verdict) c.if-trace-ne0.true c.plain.ensures in
    record { answer = r.answer; left = r.registers }
