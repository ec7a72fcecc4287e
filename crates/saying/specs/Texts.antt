-- The texts of the answers.
use Rattle.std.specs.Prelude.{ℕ, List, [], ◌++◌, codes, decimal, Result, Ok, Err}
use Rattle.record.specs.declared.answer.Refusal.{Refusal}
use Rattle.record.specs.declared.instruction.Instruction.{Instruction}
use Rattle.safety.specs.declared.verdict.Finding.{Finding}
use Rattle.safety.specs.declared.verdict.Reported.{Reported}
use Rattle.safety.specs.declared.verdict.Reported.TheVariants.{Neither, Low, High}
use Rattle.rows.specs.Names.{name_of}

-- a refusal of a word or of an instruction: its number and its place
abbrev pub refusal_text : Refusal → List ℕ
refusal_text f = codes "refused " ++ (decimal f.number ++ (codes " " ++ decimal f.place))

-- which half of a register is told
abbrev pub half_text : Reported → List ℕ
half_text Neither = []
half_text Low = codes "L"
half_text High = codes "H"

-- a refusal of a container: its number, its place, the instruction, and the register with the half
abbrev pub finding_text : Finding → List ℕ
finding_text f =
    codes "REFUSED " ++ (decimal f.number ++ (codes " " ++ (decimal f.place ++ (codes " " ++ (decimal f.index ++ (codes " " ++ (decimal f.register ++ half_text f.half)))))))

-- what a word reads as: the name of its row, or the refusal
abbrev pub reading_text : Result Instruction Refusal → List ℕ
reading_text (Ok i) = name_of i.row
reading_text (Err f) = refusal_text f
