use mathlib.Core.Path.{ap, ◌∙◌}
use mathlib.Core.List.{◌∷◌}
use Prim.Native.Nat.{ℕ}
use native.Mathlib.Omega.{arith}
use Rattle.rows.specs.Names.{ascii}
use Rattle.text.specs.Text.{number_text}
use Rattle.text.proofs.TextLaws.{same_text}
use Rattle.disasm.proofs.SignLaws.{from_0, below_0, same_sign}
use Rattle.disasm.proofs.operands.put_signed.Goals as goal

pub returns-then-z-ge0 : goal.returns-then-z-ge0
returns-then-z-ge0 c =
    let p = c.put_number.ensures in
    let e = ap (λ (n : ℕ). number_text 10 10 n) (c.from-size.ensures ∙ c.unsigned_abs.ensures.value) in
    (same_text (e ∙ from_0 _ c.if-z-ge0.true ∙ same_sign c.args.z c.ranges.z) p.0, omega (arith, p.1))

pub returns : goal.returns
unfolding ascii
returns c =
    let p = c.put_labelled.ensures in
    let e = ap (λ (n : ℕ). 45 ∷ number_text 10 10 n) (c.from-size.ensures ∙ c.unsigned_abs.ensures.value) in
    (same_text (e ∙ below_0 _ c.if-z-ge0.false ∙ same_sign c.args.z c.ranges.z) p.0, omega (arith, p.1))
