use mathlib.Core.Path.{◌≡◌, refl, sym, ap, ap₂, ◌∙◌, subst}
use Prim.Native.Nat.{ℕ, ◌<◌, ◌≤◌, max}
use native.Mathlib.Omega.{arith}
use Rattle.std.specs.Prelude.{Some}
use Rattle.differences.specs.declared.line.Line.{Line}
use Rattle.diff.specs.declared.cursor.At.{At}
use Rattle.differences.specs.Differences.{shared as shared_of}
use Rattle.diffparts.specs.Served.Parts.{singles_from}
use Rattle.diff.specs.Served.Cursor.{stage_stepped}
use Rattle.diff.proofs.WalkLaws.{tells_field, no_field, tells_instruction, skips_instruction, instruction_end}
use Rattle.diff.proofs.cursor.step_fields.Goals as goal

pub returns-in-Some : goal.returns-in-Some
returns-in-Some c =
    let a = c.args.first.now in
    let b = c.args.second.now in
    let xs = c.args.xs.now in
    let ys = c.args.ys.now in
    ap₂ (λ (n : ℕ) (r : Line × At). stage_stepped a b (max c.args.at.next n) (Some r) xs ys) c.requires.1 c.tell.ensures
    ∙ tells_field a b c.args.at xs ys c.in-Some.ensures

pub tell-requires-in-Some-first_field : goal.tell-requires-in-Some-first_field
tell-requires-in-Some-first_field c = (c.in-Some-first_field.ensures.differ _ refl).0

pub returns-in-Some-first_field : goal.returns-in-Some-first_field
returns-in-Some-first_field c =
    let a = c.args.first.now in
    let b = c.args.second.now in
    let at = c.args.at in
    let i = c.loop-i.i in
    let h = subst (λ (n : ℕ). i < n) c.requires.1 c.loop-i-test.true in
    let e : max at.next (shared_of a b) ≡ shared_of a b = omega (arith, h) in
    ap₂ (λ (n : ℕ) (r : Line × At). stage_stepped a b (max at.next n) (Some r) c.first_field.new.xs c.first_field.new.ys) c.requires.1 c.tell-in-Some-first_field.ensures
    ∙ tells_instruction a b (max at.next (shared_of a b)) i h e c.in-Some-first_field.ensures
    ∙ sym (no_field a b at c.args.xs.now c.args.ys.now c.in_default.ensures ∙ c.loop-i.invariant)

pub loop-i-preserved : goal.loop-i-preserved
loop-i-preserved c =
    let a = c.args.first.now in
    let b = c.args.second.now in
    let h = subst (λ (n : ℕ). c.loop-i.i < n) c.requires.1 c.loop-i-test.true in
    c.loop-i.invariant ∙ skips_instruction a b (max c.args.at.next (shared_of a b)) c.loop-i.i h c.in_default-first_field.ensures

pub returns : goal.returns
returns c =
    let a = c.args.first.now in
    let b = c.args.second.now in
    ap (λ (n : ℕ). singles_from a b (max c.args.at.next n)) c.requires.1
    ∙ sym (no_field a b c.args.at c.args.xs.now c.args.ys.now c.in_default.ensures ∙ c.loop-i.invariant ∙ instruction_end a b (max c.args.at.next (shared_of a b)) c.loop-i.i (subst (λ (n : ℕ). n ≤ c.loop-i.i) c.requires.1 c.loop-i-test.false))
