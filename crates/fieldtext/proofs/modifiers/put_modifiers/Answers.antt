use mathlib.Core.Path.{refl}
use native.Mathlib.Numerals.{add-one}
use native.Mathlib.Omega.{arith}
use Rattle.text.proofs.TextLaws.{put_next, same_text}
use Rattle.fieldtext.proofs.ModifierLaws.{one_more, none_of_them}
use Rattle.fieldtext.proofs.modifiers.put_modifiers.Goals as goal

pub loop-place-init : goal.loop-place-init
loop-place-init c =
    let a = c.args in
    (omega arith, refl, none_of_them a.first a.last a.kinds.now a.values.now a.places.now a.out.now)

pub loop-place-preserved : goal.loop-place-preserved
loop-place-preserved c =
    let l = c.loop-place in
    let a = c.args in
    let e = one_more a.first a.last a.kinds.now a.values.now a.places.now l.place-index (omega arith) in
    (omega arith, omega arith, rw (add-one l.place-index) (same_text e (put_next l.invariant.2 c.put_modifier-at.ensures.0)))
