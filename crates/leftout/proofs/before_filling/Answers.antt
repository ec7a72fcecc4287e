use mathlib.Core.Path.{◌≡◌, sym}
use Prim.Native.Nat.{suc, ◌-◌}
use native.Mathlib.Numerals.{add-one}
use native.Mathlib.Omega.{arith}
use Rattle.leftout.proofs.FillingLaws.{one_more, last_byte, at_end}
use Rattle.leftout.proofs.before_filling.Goals as goal

pub loop-n-init : goal.loop-n-init
loop-n-init c = at_end c.args.s.now

pub returns-then-s-n-ne32 : goal.returns-then-s-n-ne32
returns-then-s-n-ne32 c =
    let s = c.args.s.now in
    let n = c.loop-n.n - 1 in
    let e : suc n ≡ c.loop-n.n = omega arith in
    (rw (add-one n) (sym (last_byte s n (omega arith) (rw e c.loop-n.invariant) c.if-s-n-ne32.true)), omega arith)

pub loop-n-preserved : goal.loop-n-preserved
loop-n-preserved c =
    let n = c.loop-n.n - 1 in
    let e : suc n ≡ c.loop-n.n = omega arith in
    one_more c.args.s.now n (omega arith) (rw e c.loop-n.invariant) c.if-s-n-ne32.false
