use mathlib.Core.Path.{ap}
use Prim.Native.Nat.{ℕ}
use native.Mathlib.Omega.{arith}
use Rattle.text.specs.Text.{digits, number_text}
use Rattle.text.proofs.TextLaws.{same_text}
use Rattle.text.proofs.put.put_number.Goals as goal

pub returns : goal.returns
unfolding number_text
returns c =
    let a = c.args in
    let k = c.digit_count-k in
    let p = c.put_digits.ensures in
    (same_text (ap (λ (m : ℕ). digits a.base m a.n) k.ensures.0) p.0, omega (arith, p.1, k.ensures.1))
