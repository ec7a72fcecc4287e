use mathlib.Core.Path.{◌≡◌, sym, ap, ap₂, ◌∙◌}
use Prim.Native.Nat.{ℕ, ◌+◌}
use lib.IntN.{ℤ, pos, ◌+ℤ◌}
use mir.Syntax.{w32}
use mir.Val.{to_z, of_z}
use Rattle.bits.specs.declared.halves.Halves.{Halves}
use Rattle.bits.proofs.OutcomeLaws.{left_by}
use Rattle.safety.specs.Program.{landing, after, annotation_at}
use Rattle.safety.specs.Verdict.{judge_successor}
use Rattle.safety.proofs.VerdictLaws.{lands_same}
use Rattle.safety.proofs.PassLaws.{at_end, at_refused, at_next, at_branch}
use borrow.Author.Rules.{rules}
use Rattle.flow.proofs.Notes.judge_successors.Goals as goal

pub returns-then-ends : goal.returns-then-ends
returns-then-ends c =
    let a = c.args in
    at_end (judge_successor a.self.n (annotation_at a.self.version a.self.bytes.now) a.i (after a.self.version a.x a.before)) a.x a.i (sym c.ends.ensures ∙ c.if-ends.true)

pub returns-in_err-judge_successor : goal.returns-in_err-judge_successor
returns-in_err-judge_successor c =
    let a = c.args in
    let m = annotation_at a.self.version a.self.bytes.now in
    rw (left_by _ c.from_residual.ensures)
    (at_refused (judge_successor a.self.n m a.i (after a.self.version a.x a.before)) a.x a.i (sym c.ends.ensures ∙ c.if-ends.false)
    (c.in_err-judge_successor.ensures ∙ ap (λ (k : Halves). judge_successor a.self.n m a.i k (pos (a.i + 1))) c.after-held.ensures))

pub returns-then-not-branches : goal.returns-then-not-branches
returns-then-not-branches c =
    let a = c.args in
    let m = annotation_at a.self.version a.self.bytes.now in
    at_next (judge_successor a.self.n m a.i (after a.self.version a.x a.before)) a.x a.i (sym c.ends.ensures ∙ c.if-ends.false)
    (c.in_ok-judge_successor.ensures ∙ ap (λ (k : Halves). judge_successor a.self.n m a.i k (pos (a.i + 1))) c.after-held.ensures)
    (sym c.branches.ensures ∙ c.if-not-branches.true)

pub returns : goal.returns
returns c =
    let a = c.args in
    let m = annotation_at a.self.version a.self.bytes.now in
    let h = after a.self.version a.x a.before in
    let back : to_z w32 (of_z w32 a.x.offset) ≡ a.x.offset = search rules in
    let z = pos (a.i + 1) +ℤ a.x.offset in
    let j : c.branch_target-j.result ≡ landing a.self.n z =
    c.branch_target-j.ensures ∙ ap (λ (y : ℤ). landing a.self.n (pos (a.i + 1) +ℤ y)) back in
    at_branch (judge_successor a.self.n m a.i h) a.x a.i (sym c.ends.ensures ∙ c.if-ends.false)
    (c.in_ok-judge_successor.ensures ∙ ap (λ (k : Halves). judge_successor a.self.n m a.i k (pos (a.i + 1))) c.after-held.ensures)
    (sym c.branches.ensures ∙ c.if-not-branches.false)
    (c.judge_successor-2.ensures ∙ ap₂ (λ (k : Halves) (l : ℕ). judge_successor a.self.n m a.i k (pos l)) c.after-held.ensures j ∙ lands_same a.self.n m a.i h z)
