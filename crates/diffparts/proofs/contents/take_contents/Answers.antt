use mathlib.Core.Path.{◌≡◌, refl, sym, ap, ◌∙◌}
use mathlib.Core.List.{List}
use Prim.Native.Nat.{ℕ}
use lib.ListN.{replicate}
use Rattle.bits.specs.Outcomes.{Outcome}
use Rattle.record.specs.declared.instruction.Instruction.{Instruction}
use Rattle.record.specs.declared.answer.Refusal.{Refusal}
use Rattle.record.specs.Defaults.{default_instruction}
use Rattle.rows.specs.Rows.{rows}
use Rattle.rows.specs.Layout.{modifier_at}
use Rattle.reader.specs.Answers.{reading}
use Rattle.safety.specs.Program.{instruction_in}
use Rattle.differences.specs.Records.{contents}
use Rattle.diffparts.proofs.contents.take_contents.Goals as goal

abbrev in_reading : Outcome Refusal Instruction → List ℕ
in_reading o = contents (instruction_in o)

-- NOP has no field but 0
nop_contents : replicate 22 0 ≡ contents (default_instruction 0)
unfolding contents rows modifier_at
nop_contents = refl

pub returns-in-Err : goal.returns-in-Err
returns-in-Err c = nop_contents ∙ ap in_reading (ap reading (sym c.in-Err.is) ∙ c.read_number.ensures)
