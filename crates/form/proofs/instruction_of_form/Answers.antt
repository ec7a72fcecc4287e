use mathlib.Core.Path.{◌≡◌, ap, ◌∙◌}
use lib.ListN.{length, get_or}
use native.Mathlib.Omega.{arith}
use Rattle.record.specs.Lists.{modifiers_of}
use Rattle.form.specs.Form.{instruction_of_form}
use Rattle.form.proofs.OffsetLaws.{back_is, load_four}
use Rattle.form.proofs.FormLaws.{picked}
use Rattle.form.proofs.instruction_of_form.Goals as goal

pub returns : goal.returns
returns c =
    let f = c.args.f in
    let l : length f ≡ 32 = omega arith in
    λ j.
    record {
      row = get_or f 0 0;
      page = get_or f 1 0;
      flow = get_or f 2 0;
      register = get_or f 3 0;
      half_mask = get_or f 4 0;
      sources = (instruction_of_form f).sources;
      modifiers = (c.of.ensures ∙ ap modifiers_of (c.copy_from_slice.ensures.after ∙ picked 14 9 f (omega (arith, l)))) j;
      offset = (back_is c.from_le_bytes.result (record { sfits = c.from_le_bytes.type_inv }) ∙ load_four _ _ _ _ c.from_le_bytes.ensures) j;
    }
