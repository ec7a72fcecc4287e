use mathlib.Core.Path.{ap}
use Rattle.safety.specs.Verdict.{verdict_outcome}
use Rattle.infer.proofs.ProposeLaws.{hands_over, holds_back}
use Rattle.infer.proofs.hand_over.Goals as goal

pub returns-in-Ok : goal.returns-in-Ok
returns-in-Ok c =
    let a = c.args in
    hands_over a.version a.words.now a.n a.entry a.proposal.now a.k a.annotations.now c.judge_words.ensures
    (ap verdict_outcome c.in-Ok.is) c.copy_from_slice.ensures.after

pub returns-in-Err : goal.returns-in-Err
returns-in-Err c =
    let a = c.args in
    holds_back a.version a.words.now a.n a.entry a.proposal.now a.k a.annotations.now c.judge_words.ensures
    (ap verdict_outcome c.in-Err.is) c.refuse.ensures
