use mathlib.Core.Path.{sym, ap, ◌∙◌, subst}
use mathlib.Core.List.{List, ◌∷◌, ◌++◌}
use Prim.Native.Nat.{ℕ, ◌+◌, ◌<◌, ◌≤◌}
use native.Mathlib.Omega.{arith}
use Rattle.differences.specs.declared.line.Line.{Line}
use Rattle.diffparts.specs.Served.Parts.{singles_from}
use Rattle.diff.proofs.WalkLaws.{singles_step, singles_end, after_single}
use Rattle.diff.proofs.cursor.step_singles.Goals as goal

pub returns-in-Some : goal.returns-in-Some
returns-in-Some c xs ys =
    let a = c.args.first.now in
    let b = c.args.second.now in
    let p = c.loop-p.p in
    ap (λ (r : List Line). c.in-Some.line ∷ r) (after_single a b p (omega (arith, c.requires.1)) xs ys)
    ∙ ap (λ (r : List Line). r ++ singles_from a b (p + 1)) c.in-Some.ensures
    ∙ sym (c.loop-p.invariant ∙ singles_step a b p (subst (λ (e : ℕ). p < e) c.part_count-end.ensures c.loop-p-test.true))

pub loop-p-preserved : goal.loop-p-preserved
loop-p-preserved c =
    let a = c.args.first.now in
    let b = c.args.second.now in
    let p = c.loop-p.p in
    c.loop-p.invariant ∙ singles_step a b p (subst (λ (e : ℕ). p < e) c.part_count-end.ensures c.loop-p-test.true)
    ∙ ap (λ (r : List Line). r ++ singles_from a b (p + 1)) (sym c.in_default.ensures)

pub returns : goal.returns
returns c xs ys =
    sym (c.loop-p.invariant ∙ singles_end c.args.first.now c.args.second.now c.loop-p.p (subst (λ (n : ℕ). n ≤ c.loop-p.p) c.part_count-end.ensures c.loop-p-test.false))
