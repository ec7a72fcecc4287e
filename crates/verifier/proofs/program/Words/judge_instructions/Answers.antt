use native.Mathlib.Omega.{arith}
use mathlib.Core.Path.{ap}
use Rattle.safety.specs.Verdict.{verdict_outcome}
use Rattle.safety.proofs.PassLaws.{starts, turns, fails, passed_all, read_on, unread}
use Rattle.verifier.proofs.program.Words.judge_instructions.Goals as goal

pub loop-i-init : goal.loop-i-init
loop-i-init c = let a = c.args in starts a.version a.self.bytes.now a.annotations.now a.self.n

pub unreadable_from-requires : goal.unreadable_from-requires
unreadable_from-requires c = (omega (arith, c.loop-i-test.true), read_on c.args.self.bytes.now c.loop-i.i c.loop-i.invariant.reads c.in-Ok.ensures)

pub returns-in-Err-judge_flow : goal.returns-in-Err-judge_flow
returns-in-Err-judge_flow c =
    let a = c.args in
    fails a.version a.self.bytes.now a.annotations.now a.self.n c.loop-i.invariant c.in-Ok.ensures c.loop-i-test.true c.judge_flow.ensures
    (ap verdict_outcome c.in-Err-judge_flow.is) c.unreadable_from.ensures

pub returns-in-Err : goal.returns-in-Err
returns-in-Err c =
    let s = c.args.self in
    unread s.bytes.now c.loop-i.i s.n c.loop-i.invariant.reads _ c.loop-i-test.true c.in-Err.ensures c.refused.ensures

pub loop-i-preserved : goal.loop-i-preserved
loop-i-preserved c =
    let a = c.args in
    turns a.version a.self.bytes.now a.annotations.now a.self.n c.loop-i.invariant c.in-Ok.ensures c.judge_flow.ensures (ap verdict_outcome c.in_default.is)

pub returns : goal.returns
returns c =
    let a = c.args in
    passed_all a.version a.self.bytes.now a.annotations.now a.self.n c.loop-i.invariant (omega arith)
