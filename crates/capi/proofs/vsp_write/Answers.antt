use mathlib.Core.Path.{sym, ap, ◌∙◌}
use Rattle.writer.specs.Answers.{writing}
use Rattle.writing.specs.Writer.{write, stored}
use Rattle.record.specs.declared.instruction.Instruction.{Instruction}
use Rattle.codes.proofs.AnswerLaws.{wrong_buffer, no_row, not_0, done, unwritten}
use Rattle.capi.proofs.vsp_write.Goals as goal

pub returns-then-word-ne8 : goal.returns-then-word-ne8
returns-then-word-ne8 c = let all = wrong_buffer c.args.form.now c.args.word.now c.if-word-ne8.true in record { answer = all.0; kept = all.1 }

pub returns-then-f-ge-ROWS : goal.returns-then-f-ge-ROWS
returns-then-f-ge-ROWS c = let all = no_row c.args.form.now c.args.word.now c.if-word-ne8.false c.if-f-ge-ROWS.true in record { answer = all.0; kept = all.1 }

pub returns-then-padded : goal.returns-then-padded
returns-then-padded c = let all = not_0 c.args.form.now c.args.word.now c.if-word-ne8.false c.if-f-ge-ROWS.false (sym c.padded.ensures ∙ c.if-padded.true) in record { answer = all.0; kept = all.1 }

pub returns-in-Ok : goal.returns-in-Ok
returns-in-Ok c = let all = done c.args.form.now c.args.word.now c.if-word-ne8.false c.if-f-ge-ROWS.false (sym c.padded.ensures ∙ c.if-padded.false) (ap writing (sym c.in-Ok.is) ∙ c.write_word.ensures.answer ∙ ap (λ (i : Instruction). write i c.args.word.now) c.instruction_of_form.ensures) (c.write_word.ensures.kept ∙ ap (λ (i : Instruction). stored i c.args.word.now) c.instruction_of_form.ensures) in record { answer = all.0; kept = all.1 }

pub returns-in-Err : goal.returns-in-Err
returns-in-Err c = let all = unwritten c.args.form.now c.args.word.now c.if-word-ne8.false c.if-f-ge-ROWS.false (sym c.padded.ensures ∙ c.if-padded.false) (ap writing (sym c.in-Err.is) ∙ c.write_word.ensures.answer ∙ ap (λ (i : Instruction). write i c.args.word.now) c.instruction_of_form.ensures) c.refusal_code.ensures (c.write_word.ensures.kept ∙ ap (λ (i : Instruction). stored i c.args.word.now) c.instruction_of_form.ensures) in record { answer = all.0; kept = all.1 }
