-- What the answers mean: for each case the number and the values that it stands for (01, Numbers given back).
use Rattle.std.specs.Prelude.{ℕ, Result}
use Rattle.bits.specs.Outcomes.{Outcome, outcome}
use Rattle.record.specs.declared.instruction.Instruction.{Instruction}
use Rattle.record.specs.declared.answer.Refusal.{Refusal}

-- a refusal's number and its place; 0 is also the place of those that have none
abbrev pub refusal : ℕ → ℕ → Refusal
refusal n p = record { number = n; place = p }

-- the fresh record, or the refusal
abbrev pub making : Result Instruction Refusal → Outcome Refusal Instruction
making r = outcome r
