use Rattle.std.specs.Prelude.{Option, option_map}
use mathlib.Core.Path.{◌≡◌, sym, ap, subst, ◌∙◌}
use Prim.Native.Nat.{ℕ, ◌<◌, ◌^◌}
use Rattle.opcoderows.specs.Opcodes.{row_for}
use Rattle.lookup.specs.declared.Line.{Line}
use Rattle.lookup.specs.Served.Lines.{line_of}
use Rattle.judge.specs.Served.Judge.{refused, Judges}
use Rattle.judge.proofs.JudgeLaws.{line_fitted, none_fits, stray_there}
use borrow.Author.Rules.{rules}
use Rattle.judge.proofs.judge_word.Goals as goal

-- what a word was led to
Led : ℕ → (Option Line) → Type 0
Led w f = f ≡ option_map line_of (row_for w)

pub returns-in_default : goal.returns-in_default
unfolding Led
returns-in_default c =
    subst (Judges c.args.w) (sym c.refuse.ensures) (none_fits c.args.w (subst (Led c.args.w) c.in_default.is c.line_of.ensures.answer))

pub judge_fields-requires : goal.judge_fields-requires
unfolding Led
judge_fields-requires c =
    (line_fitted c.args.w (subst (Led c.args.w) c.in-Some.is c.line_of.ensures.answer), c.if-w-l.true)

pub lowest_stray-requires : goal.lowest_stray-requires
unfolding Led
lowest_stray-requires c = line_fitted c.args.w (subst (Led c.args.w) c.in-Some.is c.line_of.ensures.answer)

pub returns : goal.returns
unfolding Led
returns c =
    let hw : c.args.w < 2 ^ 64 = search rules in
    let f = line_fitted c.args.w (subst (Led c.args.w) c.in-Some.is c.line_of.ensures.answer) in
    subst (Judges c.args.w) (sym (c.refuse-2.ensures ∙ ap (refused 3) c.lowest_stray.ensures))
    (stray_there c.args.w hw _ f c.if-w-l.false)
