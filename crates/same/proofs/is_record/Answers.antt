use Rattle.std.specs.Prelude.{Result, Ok, Err}
use Rattle.std.specs.Result.{result_eq}
use Rattle.std.specs.Ordering.{int_eq}
use Rattle.std.proofs.lemmas.Bool.Decides.{same_from_decides, Decides-int_eq}
use mathlib.Core.Path.{◌≡◌, refl, sym, ap, ◌∙◌}
use mathlib.Core.Bool.{and-true, and_assoc}
use lib.IntN.{ℤ}
use Rattle.record.specs.declared.instruction.Instruction.{Instruction}
use Rattle.record.specs.declared.answer.Refusal.{Refusal}
use Rattle.record.specs.contracts.instruction.InstructionPartialEq.TheImpl as Records
use Rattle.record.specs.contracts.answer.RefusalPartialEq.TheImpl as Refusals
use Rattle.reader.specs.Answers.{reading}
use Rattle.writing.specs.Writer.{same_list, same_offset, same, is_record}
use Rattle.writing.proofs.RoundTrip.{offset_refl, offset_eq}
use Rattle.same.proofs.is_record.Goals as goal

offsets : (y z : ℤ) → int_eq y z ≡ same_offset y z
offsets y z = same_from_decides (int_eq y z) (same_offset y z) (Decides-int_eq y z) (offset_eq y z, λ e. ap (same_offset y) (sym e) ∙ offset_refl y)

-- records that are equal by their fields, in groups or one after the other
records : (a b : Instruction) → Records.eq-value.it a b ≡ same a b
unfolding same same_list
records a b = simp (and_assoc, and-true, offsets)

read_as : (x : Result Instruction Refusal) (i : Instruction)
    → result_eq Records.eq-value.it Refusals.eq-value.it x (Ok i) ≡ is_record (reading x) i
read_as (Ok a) i = records a i
read_as (Err f) i = refl

pub returns : goal.returns
returns c = c.eq.ensures ∙ read_as c.args.x c.args.i
