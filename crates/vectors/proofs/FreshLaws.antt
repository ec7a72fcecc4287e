-- Each row has a default. Assumes nothing.
use mathlib.Core.Path.{◌≡◌, refl, ◌∙◌}
use Prim.Native.Nat.{ℕ, ◌<◌}
use borrow.Author.Tests.{lt-ltb}
use Rattle.std.specs.Prelude.{Result, Ok, Err, IsOk}
use Rattle.bits.specs.Outcomes.{gives, ◌then◌}
use Rattle.bits.proofs.OutcomeLaws.{never}
use Rattle.rows.specs.Rows.{row_count}
use Rattle.record.specs.Answers.{making}
use Rattle.record.specs.Defaults.{default_instruction, fresh}
use Rattle.record.specs.declared.answer.Refusal.{Refusal}
use Rattle.record.specs.declared.instruction.Instruction.{Instruction}

given : (r : Result Instruction Refusal) (i : Instruction) → making r ≡ gives i → IsOk r
given (Ok _) i e = refl
given (Err _) i e = never e

pub made : (k : ℕ) (r : Result Instruction Refusal) → k < row_count → making r ≡ fresh k → IsOk r
unfolding fresh ◌then◌
made k r h e = given r (default_instruction k) (e ∙ rw (lt-ltb k row_count h))
