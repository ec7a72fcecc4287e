use mathlib.Core.Logic.{inl, inr}
use native.Mathlib.Omega.{arith}
use Rattle.text.proofs.TextLaws.{same_text}
use Rattle.fieldtext.proofs.ModifierLaws.{no_place, too_low, too_high, of_these}
use Rattle.fieldtext.proofs.modifiers.put_modifier.Goals as goal

pub returns-then-at-ge-MODIFIERS : goal.returns-then-at-ge-MODIFIERS
returns-then-at-ge-MODIFIERS c =
    (no_place c.args.first c.args.last c.args.kinds.now c.args.values.now c.args.place c.args.out.now c.requires.1 (omega (arith, c.if-at-ge-MODIFIERS.true, c.requires.3)), omega arith)

pub returns-then-kind-first : goal.returns-then-kind-first
returns-then-kind-first c =
    let a = c.args in (
      elim c.then-kind-first.either [
        | inl h ↦ too_low a.first a.last a.kinds.now a.values.now a.place a.out.now h
        | inr h ↦ too_high a.first a.last a.kinds.now a.values.now a.place a.out.now h.1
      ],
      omega arith,
    )

pub returns : goal.returns
returns c =
    let p = c.put_value.ensures in
    (same_text (of_these c.args.first c.args.last c.args.kinds.now c.args.values.now c.args.place c.if-kind-first.false c.if-last-kind.false) p.0, p.1)
