-- The name of what a word says.
use Rattle.std.specs.Prelude.{List, [], ℕ}
use Rattle.bits.specs.Outcomes.{Outcome, gives, refuses}
use Rattle.record.specs.declared.instruction.Instruction.{Instruction}
use Rattle.record.specs.declared.answer.Refusal.{Refusal}
use Rattle.rows.specs.Names.{name_of}

-- none for a word that does not read, which no line is written for
abbrev pub name_in : Outcome Refusal Instruction → List ℕ
name_in (gives x) = name_of x.row
name_in (refuses _) = []
