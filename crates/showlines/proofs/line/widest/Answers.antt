use Rattle.text.proofs.TextLaws.{length_put}
use lib.ListN.{length}
use mathlib.Core.Path.{refl, ap, ◌∙◌}
use Prim.Native.Nat.{ℕ}
use native.Mathlib.Omega.{arith}
use Rattle.wordtext.specs.Columns.{column_of}
use native.Mathlib.Nat.{max-le}
use Rattle.showlines.proofs.LineLaws.{title_width, one_wider}
use Rattle.showlines.proofs.line.widest.Goals as goal

pub loop-i-init : goal.loop-i-init
loop-i-init c = (title_width c.args.words.now c.args.n, omega arith, refl)

pub loop-i-preserved : goal.loop-i-preserved
loop-i-preserved c =
    let a = c.args in
    let l = c.loop-i in
    let p = c.put_column.ensures in
    let e = p.0.counts ∙ ap (λ (w : ℕ). length (column_of a.n l.i w)) c.number_at.ensures in
    (c.max-most.ensures ∙ one_wider a.words.now a.n l.i l.invariant.0 e, rw c.max-most.ensures (max-le l.invariant.1 p.1), length_put p.0 (omega (arith, p.1, l.invariant.2)) ∙ l.invariant.2)
