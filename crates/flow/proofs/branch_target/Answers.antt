use mathlib.Core.Path.{sym, ap, ◌∙◌}
use Prim.Native.Nat.{◌+◌, ◌-◌, ◌<◌, ◌≤◌}
use native.Mathlib.Omega.{arith}
use lib.IntN.{ℤ, pos, nat_abs, ◌+ℤ◌}
use Rattle.safety.specs.Program.{landing}
use Rattle.safety.proofs.BranchLaws.{backward, forward, before_start, back_on, back_past, on_inside, on_past}
use Rattle.flow.proofs.branch_target.Goals as goal

pub returns-then-i-back : goal.returns-then-i-back
returns-then-i-back c =
    let a = c.args in
    let b = backward c.args.offset c.ranges.offset c.if-offset-lt0.true in
    let h : a.i < b.k = rw b.reads at c.if-i-back.true in
    rw b.is (before_start a.i b.k a.n h)

pub returns-then-n-i : goal.returns-then-n-i
returns-then-n-i c =
    let a = c.args in
    let b = forward c.args.offset c.ranges.offset c.if-offset-lt0.false in
    rw b.is (on_past a.i b.k a.n (omega (arith, c.if-n-i.true)))

pub returns-then-i-back-2 : goal.returns-then-i-back-2
returns-then-i-back-2 c =
    let a = c.args in
    let b = backward c.args.offset c.ranges.offset c.if-offset-lt0.true in
    let h : b.k ≤ a.i = rw b.reads at c.if-i-back.false in
    let l : a.i - b.k < a.n = rw b.reads at c.if-i-back-2.true in
    ap (λ (y : ℤ). a.i - nat_abs y) b.reads ∙ back_on a.i b.k a.n h l ∙ ap (λ (z : ℤ). landing c.args.n (pos (c.args.i + 1) +ℤ z)) (sym b.is)

pub returns-else-i-back-2 : goal.returns-else-i-back-2
returns-else-i-back-2 c =
    let a = c.args in
    let b = backward c.args.offset c.ranges.offset c.if-offset-lt0.true in
    let h : b.k ≤ a.i = rw b.reads at c.if-i-back.false in
    let l : a.n ≤ a.i - b.k = rw b.reads at c.if-i-back-2.false in
    rw b.is (back_past a.i b.k a.n h l)

pub returns-then-on-n : goal.returns-then-on-n
returns-then-on-n c =
    let a = c.args in
    let b = forward c.args.offset c.ranges.offset c.if-offset-lt0.false in
    let l : b.k < a.n - a.i - 1 = rw b.reads at c.if-on-n.true in
    ap (λ (y : ℤ). a.i + 1 + nat_abs y) b.reads ∙ on_inside a.i b.k a.n (omega arith) ∙ ap (λ (z : ℤ). landing c.args.n (pos (c.args.i + 1) +ℤ z)) (sym b.is)

pub returns-else-on-n : goal.returns-else-on-n
returns-else-on-n c =
    let a = c.args in
    let b = forward c.args.offset c.ranges.offset c.if-offset-lt0.false in
    let l : a.n - a.i - 1 ≤ b.k = rw b.reads at c.if-on-n.false in
    rw b.is (on_past a.i b.k a.n (omega (arith, c.if-n-i.false)))
