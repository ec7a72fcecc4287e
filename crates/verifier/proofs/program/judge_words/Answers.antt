use mathlib.Core.Path.{refl, ap, ◌∙◌}
use Rattle.bits.specs.declared.halves.Halves.{Halves}
use Rattle.safety.specs.Program.{program_in}
use Rattle.bits.specs.Outcomes.{first}
use Rattle.safety.specs.Verdict.{verdict_outcome, none_missing}
use Rattle.safety.proofs.PassLaws.{entered, barred}
use borrow.Author.Rules.{rules}
use Rattle.verifier.proofs.program.judge_words.Goals as goal

pub unreadable_from-requires : goal.unreadable_from-requires
unfolding first
unreadable_from-requires c = (search rules, refl)

pub returns : goal.returns
returns c =
    let a = c.args in
    entered a.words.now (program_in a.version a.words.now a.annotations.now a.n a.entry) (c.none_missing.ensures ∙ ap (λ (x : Halves). none_missing 23 0 x a.entry) c.annotation_at-first.ensures) (ap verdict_outcome c.in_default.is) c.judge_instructions.ensures

pub returns-in-Err : goal.returns-in-Err
returns-in-Err c =
    let a = c.args in
    barred a.words.now (program_in a.version a.words.now a.annotations.now a.n a.entry) (c.none_missing.ensures ∙ ap (λ (x : Halves). none_missing 23 0 x a.entry) c.annotation_at-first.ensures) (ap verdict_outcome c.in-Err.is) c.unreadable_from.ensures
