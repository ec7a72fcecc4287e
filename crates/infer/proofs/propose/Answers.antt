use mathlib.Core.Path.{refl, sym}
use Prim.Native.Nat.{◌^◌, ◌<◌}
use native.Mathlib.Omega.{arith}
use Rattle.bits.proofs.OutcomeLaws.{left_by}
use Rattle.infer.proofs.ProposeLaws.{P, full, begins, proposes, refuses_word}
use Rattle.infer.proofs.propose.Goals as goal

pub returns-in_err-make_plan : goal.returns-in_err-make_plan
returns-in_err-make_plan c =
    let a = c.args in
    rw (left_by _ c.from_residual.ensures) (refuses_word a.version a.words.now a.n a.entry c.in_err-make_plan.ensures.outcome)

pub returns : goal.returns
returns c =
    let a = c.args in
    let p = c.requires in
    let w = a.words.now in
    let low : a.entry.low < 2 ^ 64 = omega (arith, c.well_formed) in
    let high : a.entry.high < 2 ^ 64 = omega (arith, c.well_formed) in
    let v = c.in_ok-make_plan.ensures in
    let few = p.0.worded.few in
    proposes a.version w a.n a.entry (sym v.outcome)
    (c.rest-k.ensures (P a.version w a.n a.entry) refl (begins a.version w a.n a.entry p.0 low high (v.plan refl) (full a.n few) (full a.n few)))
    c.encode.ensures
