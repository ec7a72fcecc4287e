use mathlib.Core.Path.{◌≡◌, refl}
use Prim.Native.Nat.{◌+◌, ◌*◌}
use native.Mathlib.Numerals.{add-one}
use native.Mathlib.Omega.{arith}
use Rattle.text.proofs.TextLaws.{put_next, put_nothing, same_text, length_put}
use Rattle.replaytext.specs.ReplayText.{values}
use Rattle.replaytext.proofs.ValueLaws.{one_value}
use Rattle.replaytext.proofs.put_values.Goals as goal

pub loop-v-init : goal.loop-v-init
unfolding values
loop-v-init c = (refl, refl, put_nothing refl c.args.out.now)

pub loop-v-preserved : goal.loop-v-preserved
loop-v-preserved c =
    let a = c.args in
    let l = c.loop-v in
    let p = put_next l.invariant.2 c.put_digits-at.ensures.0 in
    let e : l.at + c.put_digits-at.result ≡ 8 * (l.v-index + 1) = omega (arith, c.put_digits-at.ensures.1) in
    (e, length_put p (omega arith), rw (add-one l.v-index) (same_text (one_value a.registers.now l.v-index (omega arith)) p))
