use Rattle.std.specs.Prelude.{None, Some}
use mathlib.Core.Path.{◌≡◌, sym, ap, ap₂, ◌∙◌}
use mathlib.Core.List.{List, [], ◌∷◌}
use Prim.Native.Nat.{ℕ, suc, ◌+◌, ◌-◌, ◌<◌, ◌≤◌}
use native.Mathlib.Nat.{sub-zero}
use native.Mathlib.Omega.{arith}
use Rattle.bits.specs.Lists.{kth}
use Rattle.differences.specs.declared.line.Line.{Line}
use lib.ListN.{replicate}
use Rattle.diff.proofs.AnswerLaws.{counted_by}
use Rattle.diff.proofs.WalkLaws.{from_start}
use Rattle.diff.proofs.content_line.Goals as goal

-- line k of all is a line of what remains
module _ (all rest : List Line) (k i : ℕ) (e : kth all k ≡ kth rest (k - i)) where
  fewer : [] ≡ rest → None ≡ kth all k
  unfolding kth
  fewer q = sym (e ∙ ap (λ (l : List Line). kth l (k - i)) (sym q))

  module _ (more : List Line) (l : Line) (q : l ∷ more ≡ rest) where
    onward : i < k → kth all k ≡ kth more (k - (i + 1))
    unfolding kth
    onward h =
        let n : k - i ≡ suc (k - (i + 1)) = omega arith in
        e ∙ ap₂ kth (sym q) n

    arrived : k ≤ i → Some l ≡ kth all k
    unfolding kth
    arrived h =
        let n : k - i ≡ 0 = omega arith in
        sym (e ∙ ap₂ kth (sym q) n)

pub loop-i-init : goal.loop-i-init
loop-i-init c =
    let a = c.args in
    ap₂ kth (sym (from_start a.first.now a.second.now (replicate 22 0) (replicate 22 0))) (sym (sub-zero a.k))

pub advance-requires : goal.advance-requires
advance-requires c = counted_by c.requires c.open_count-n.ensures c.open_count-m.ensures

pub advance-requires-2 : goal.advance-requires-2
advance-requires-2 c = counted_by c.requires c.open_count-n.ensures c.open_count-m.ensures

pub returns-in_err-next : goal.returns-in_err-next
returns-in_err-next c = c.from_residual.ensures ∙ fewer _ _ _ _ c.loop-i.invariant c.in_err-next.ensures

pub loop-i-preserved : goal.loop-i-preserved
loop-i-preserved c = onward _ _ _ _ c.loop-i.invariant _ _ c.in_ok-next.ensures c.loop-i-test.true

pub returns-in_err-line : goal.returns-in_err-line
returns-in_err-line c = c.from_residual-in_err-line.ensures ∙ fewer _ _ _ _ c.loop-i.invariant c.in_err-line.ensures

pub returns : goal.returns
returns c = arrived _ _ _ _ c.loop-i.invariant _ _ c.in_ok-line.ensures c.loop-i-test.false
