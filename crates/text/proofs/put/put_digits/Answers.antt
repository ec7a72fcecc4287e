use mathlib.Core.Path.{◌≡◌, refl, sym, ap, ◌∙◌}
use mathlib.Core.List.{◌++◌}
use Prim.Native.Nat.{ℕ, suc, ◌-◌, ◌/◌}
use native.Mathlib.Omega.{arith}
use lib.ListN.{drop, set, length-set}
use Rattle.text.specs.Text.{digits}
use Rattle.text.proofs.TextLaws.{length_digits, digit_before}
use Rattle.text.proofs.put.put_digits.Goals as goal

pub loop-i-preserved : goal.loop-i-preserved
loop-i-preserved c =
    let l = c.loop-i in
    let base = c.args.base in
    let j = l.i - 1 in
    let e : suc j ≡ l.i = omega arith in (
      simp length-set l.invariant.0,
      ap (λ (d : ℕ). digits base j (l.rest / base) ++ drop j (set l.out j d)) c.digit.ensures
          ∙ digit_before base j l.rest l.out (omega arith)
          ∙ ap (λ (k : ℕ). digits base k l.rest ++ drop k l.out) e
          ∙ l.invariant.1,
    )

pub returns : goal.returns
unfolding digits
returns c =
    let a = c.args in
    let l = c.loop-i in
    let e : l.i ≡ 0 = omega arith in (
      record {
        counts = sym (length_digits a.base a.k a.n);
        fills = rw (length_digits a.base a.k a.n) (sym (ap (λ (i : ℕ). digits a.base i l.rest ++ drop i l.out) e) ∙ l.invariant.1);
      },
      refl,
    )
