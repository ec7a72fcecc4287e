use Prim.Native.Nat.{◌-◌}
use native.Mathlib.Numerals.{add-one}
use native.Mathlib.Omega.{arith}
use Rattle.text.proofs.TextLaws.{last_digit, one_more, no_more}
use Rattle.text.proofs.put.digit_count.Goals as goal

pub returns-then-rest-base : goal.returns-then-rest-base
returns-then-rest-base c =
    let a = c.args in
    let l = c.loop-k in
    let e = last_digit a.base a.most l.k l.rest (omega arith) c.if-rest-base.true in
    (omega (arith, e, l.invariant), omega arith)

pub loop-k-preserved : goal.loop-k-preserved
loop-k-preserved c =
    let a = c.args in
    let l = c.loop-k in
    let e = one_more a.base a.most l.k l.rest (omega arith) c.if-rest-base.false in
    rw (add-one l.k) (omega (arith, e, l.invariant))

pub returns : goal.returns
returns c =
    let a = c.args in
    let l = c.loop-k in
    let e = no_more a.base l.rest {k = a.most - l.k} (omega arith) in
    (omega (arith, e, l.invariant), omega arith)
