use mathlib.Core.Path.{sym, ap, ◌∙◌}
use Rattle.replay.specs.Replay.{asked, replayed_outcome}
use Rattle.replaycode.proofs.CodeLaws.{replay_roomy}
use Rattle.capi.proofs.vsp_replay.Goals as goal

pub finding_code-requires : goal.finding_code-requires
finding_code-requires c =
    let a = c.args in
    let q = replay_roomy (asked a.container.now a.registers.now a.uniforms.now a.trace.now a.limit) (λ k. (c.type_inv.container k).fits) (sym c.replay.ensures.answer ∙ ap replayed_outcome c.in-Err.is) in
    (q.index, q.register)
