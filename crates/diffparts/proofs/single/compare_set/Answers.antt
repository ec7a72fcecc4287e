use mathlib.Core.Path.{ap, ap₂, ◌∙◌}
use Prim.Native.Nat.{◌-◌}
use Rattle.differences.specs.declared.line.What.TheVariants.{Entry, Annotation}
use Rattle.differences.specs.Sets.{set_in}
use Rattle.differences.specs.Differences.{where_differs}
use Rattle.diffparts.proofs.SingleLaws.{at_entry, at_note}
use Rattle.diffparts.proofs.single.compare_set.Goals as goal

pub returns-then-j-eq0 : goal.returns-then-j-eq0
returns-then-j-eq0 c =
    let k = c.args.k in
    c.compare.ensures
    ∙ ap₂ (where_differs (Entry k) 0) (c.set_in.ensures ∙ ap (set_in k) c.entry-x.ensures) (c.set_in-then-j-eq0.ensures ∙ ap (set_in k) c.entry-y.ensures)
    ∙ at_entry c.args.first.now c.args.second.now c.args.j k c.if-j-eq0.true

pub returns : goal.returns
returns c =
    let k = c.args.k in
    c.compare-2.ensures
    ∙ ap₂ (where_differs (Annotation k) (c.args.j - 1)) (c.set_in-2.ensures ∙ ap (set_in k) c.note-x.ensures) (c.set_in-3.ensures ∙ ap (set_in k) c.note-y.ensures)
    ∙ at_note c.args.first.now c.args.second.now c.args.j k c.if-j-eq0.false
