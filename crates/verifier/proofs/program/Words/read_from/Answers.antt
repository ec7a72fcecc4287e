use mathlib.Core.Path.{◌∙◌}
use native.Mathlib.Omega.{arith}
use Rattle.bits.proofs.FirstLaws.{then_none}
use Rattle.bits.specs.Outcomes.{passes}
use Rattle.safety.proofs.PassLaws.{unread, read_on, read_all}
use Rattle.verifier.proofs.program.Words.read_from.Goals as goal

pub returns-in-Err : goal.returns-in-Err
returns-in-Err c =
    let s = c.args.self in
    unread s.bytes.now c.loop-i.i s.n c.loop-i.invariant passes c.loop-i-test.true c.in-Err.ensures c.refused.ensures ∙ then_none _

pub loop-i-preserved : goal.loop-i-preserved
loop-i-preserved c = read_on c.args.self.bytes.now c.loop-i.i c.loop-i.invariant c.in_default.ensures

pub returns : goal.returns
returns c =
    let s = c.args.self in
    read_all s.bytes.now c.loop-i.i s.n c.loop-i.invariant (omega arith)
