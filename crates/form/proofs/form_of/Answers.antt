use mathlib.Core.Path.{ap, ◌∙◌}
use mir.Syntax.{w32}
use mir.Val.{SFits, of_z}
use Rattle.form.proofs.OffsetLaws.{back_is, unsigned_is}
use Rattle.form.proofs.FormLaws.{form_bytes}
use Rattle.form.proofs.form_of.Goals as goal

pub returns : goal.returns
returns c =
    let i = c.args.i in
    let fits : SFits w32 i.offset = record { sfits = c.well_formed.0.1.1.1.1.1.1.1.1.1.0.1 } in
    rw (c.copy_from_slice.ensures.after, c.copy_from_slice-2.ensures.after, c.to_le_bytes.ensures, c.copy_from_slice-3.ensures.after, c.list.ensures)
    (form_bytes i _ (ap (of_z w32) (back_is i.offset fits) ∙ unsigned_is i.offset fits))
