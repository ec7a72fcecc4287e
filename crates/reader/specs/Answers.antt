-- What the reader's answer means: the record read, or the refusal.
use Rattle.std.specs.Prelude.{Result}
use Rattle.bits.specs.Outcomes.{Outcome, outcome}
use Rattle.record.specs.declared.instruction.Instruction.{Instruction}
use Rattle.record.specs.declared.answer.Refusal.{Refusal}

abbrev pub reading : Result Instruction Refusal → Outcome Refusal Instruction
reading r = outcome r
