use mathlib.Core.Path.{ap}
use mathlib.Core.List.{◌∷◌, ◌++◌}
use native.Mathlib.Omega.{arith}
use Rattle.bits.specs.Outcomes.{Outcome}
use Rattle.record.specs.declared.instruction.Instruction.{Instruction}
use Rattle.record.specs.declared.answer.Refusal.{Refusal}
use Rattle.text.specs.Text.{space, hex}
use Rattle.text.specs.Name.{name_in}
use Rattle.text.proofs.TextLaws.{put_next, same_text}
use Rattle.linetext.proofs.put_word.Goals as goal

pub returns : goal.returns
returns c = (same_text (ap (λ (r : Outcome Refusal Instruction). (space ∷ hex 16 c.args.word) ++ (space ∷ name_in r)) c.read_number.ensures) (put_next c.put_spaced-at.ensures.0 c.put_reading.ensures.0), omega arith)
