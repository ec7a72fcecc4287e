use mathlib.Core.Path.{ap, ap₂, ◌∙◌}
use mathlib.Core.List.{[], ◌∷◌}
use Prim.Native.Nat.{ℕ, ◌-◌, max}
use native.Mathlib.Omega.{arith}
use Rattle.differences.specs.declared.line.What.TheVariants.{Added, Removed}
use Rattle.differences.specs.Differences.{line}
use Rattle.diffparts.specs.Served.Parts.{set_part}
use Rattle.diffparts.proofs.SingleLaws.{at_removed, at_added, at_set}
use Rattle.diffparts.proofs.single.line_of_part.Goals as goal

pub returns-then-p-n : goal.returns-then-p-n
returns-then-p-n c =
    let k = c.requires.0 in
    let p = c.args.p in
    c.tell.ensures ∙ ap (λ (w : ℕ). line Removed p w 0 ∷ []) c.word.ensures
    ∙ at_removed c.args.first.now c.args.second.now p (omega (arith, c.if-p-n.true, k.first_count))

pub returns-then-p-m : goal.returns-then-p-m
returns-then-p-m c =
    let k = c.requires.0 in
    let p = c.args.p in
    c.tell-then-p-m.ensures ∙ ap (λ (w : ℕ). line Added p 0 w ∷ []) c.word-then-p-m.ensures
    ∙ at_added c.args.first.now c.args.second.now p (omega (arith, c.if-p-n.false, k.first_count))
    (omega (arith, c.if-p-m.true, k.second_count))

pub returns : goal.returns
returns c =
    let k = c.requires.0 in
    let p = c.args.p in
    let a = c.args.first.now in
    let b = c.args.second.now in
    c.line_of_set.ensures
    ∙ ap (λ (x : ℕ). set_part a b (p - x)) (c.max.ensures ∙ ap₂ max k.first_count k.second_count)
    ∙ at_set a b p (omega (arith, c.if-p-n.false, k.first_count)) (omega (arith, c.if-p-m.false, k.second_count))
