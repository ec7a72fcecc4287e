use mathlib.Core.Path.{refl, ap, ◌∙◌}
use native.Mathlib.Omega.{arith}
use Rattle.bits.specs.Outcomes.{Outcome}
use Rattle.bits.proofs.OutcomeLaws.{left_by}
use Rattle.record.specs.declared.instruction.Instruction.{Instruction}
use Rattle.record.specs.declared.answer.Refusal.{Refusal}
use Rattle.writing.specs.Writer.{is_record}
use Rattle.writing.proofs.WriterLaws.{wrong_buffer, off_table, no_room_in, declined, unread, done}
use Rattle.writer.specs.Answers.{writing}
use Rattle.writer.proofs.write_buffer.Goals as goal

pub returns-then-buffer-ne8 : goal.returns-then-buffer-ne8
returns-then-buffer-ne8 c =
    let i = c.args.i in
    let bs = c.args.buffer.now in
    let e = wrong_buffer i bs c.if-buffer-ne8.true in
    record { answer = c.refused.ensures ∙ e.0; kept = e.1 }

pub returns-then-i-ge-ROWS : goal.returns-then-i-ge-ROWS
returns-then-i-ge-ROWS c =
    let i = c.args.i in
    let bs = c.args.buffer.now in
    let e = off_table i bs c.if-buffer-ne8.false c.if-i-ge-ROWS.true in
    record { answer = c.refused-then-i-ge-ROWS.ensures ∙ e.0; kept = e.1 }

pub returns-then-not-numbers_fit : goal.returns-then-not-numbers_fit
returns-then-not-numbers_fit c =
    let i = c.args.i in
    let bs = c.args.buffer.now in
    let e = no_room_in i bs c.if-buffer-ne8.false (omega (arith, c.if-i-ge-ROWS.false)) c.numbers_fit.ensures (c.if-not-numbers_fit.true) in
    record { answer = c.refused-then-not-numbers_fit.ensures ∙ e.0; kept = e.1 }

pub returns-in_err-judge_word : goal.returns-in_err-judge_word
returns-in_err-judge_word c =
    let i = c.args.i in
    let bs = c.args.buffer.now in
    let e = declined i bs c.if-buffer-ne8.false (omega (arith, c.if-i-ge-ROWS.false)) c.numbers_fit.ensures (c.if-not-numbers_fit.false) c.word_of-w.ensures refl c.in_err-judge_word.ensures in
    record { answer = ap writing (left_by c.from_residual.result c.from_residual.ensures) ∙ e.0; kept = e.1 }

pub returns-then-not-is_record : goal.returns-then-not-is_record
returns-then-not-is_record c =
    let i = c.args.i in
    let bs = c.args.buffer.now in
    let e = unread i bs c.if-buffer-ne8.false (omega (arith, c.if-i-ge-ROWS.false)) c.numbers_fit.ensures (c.if-not-numbers_fit.false) c.word_of-w.ensures refl c.in_ok-judge_word.ensures.1.1 (c.is_record.ensures ∙ ap (λ (o : Outcome Refusal Instruction). is_record o i) c.read_number.ensures) (c.if-not-is_record.true) in
    record { answer = c.refused-then-not-is_record.ensures ∙ e.0; kept = e.1 }

pub returns : goal.returns
returns c =
    let i = c.args.i in
    let bs = c.args.buffer.now in
    let e = done i bs c.if-buffer-ne8.false (omega (arith, c.if-i-ge-ROWS.false)) c.numbers_fit.ensures (c.if-not-numbers_fit.false) c.word_of-w.ensures refl c.in_ok-judge_word.ensures.1.1 (c.is_record.ensures ∙ ap (λ (o : Outcome Refusal Instruction). is_record o i) c.read_number.ensures) (c.if-not-is_record.false) c.store64.ensures in
    record { answer = e.0; kept = e.1 }
