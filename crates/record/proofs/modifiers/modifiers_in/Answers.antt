use mathlib.Core.Path.{ap, ◌∙◌}
use Rattle.record.specs.Lists.{modifiers_of}
use Rattle.record.specs.Served.Modifiers.{modifiers_in}
use Rattle.record.proofs.ModifierLaws.{none_there}
use Rattle.record.proofs.modifiers.modifiers_in.Goals as goal

pub returns-then-widths-eq0 : goal.returns-then-widths-eq0
returns-then-widths-eq0 c = c.of.ensures ∙ ap modifiers_of (none_there c.args.w c.if-widths-eq0.true)

pub returns : goal.returns
unfolding modifiers_in
returns c =
    λ j.
    record {
      m8 = c.modifier_in.ensures j;
      m10 = c.modifier_in-2.ensures j;
      m11 = c.modifier_in-3.ensures j;
      m24 = c.modifier_in-4.ensures j;
      m26 = c.modifier_in-5.ensures j;
      m28 = c.modifier_in-6.ensures j;
      m30 = c.modifier_in-7.ensures j;
      m32 = c.modifier_in-8.ensures j;
      m34 = c.modifier_in-9.ensures j;
      m35 = c.modifier_in-10.ensures j;
      m36 = c.modifier_in-11.ensures j;
      m37 = c.modifier_in-12.ensures j;
      m38 = c.modifier_in-13.ensures j;
      m39 = c.modifier_in-14.ensures j;
    }
