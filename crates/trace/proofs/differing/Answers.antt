use native.Mathlib.Omega.{arith}
use Rattle.bits.proofs.SetLaws.{lowest_none}
use Rattle.trace.specs.Trace.{unlike}
use Rattle.trace.proofs.differing.Goals as goal

pub returns : goal.returns
returns c = let a = c.args in λ z. lowest_none (unlike a.registers.now a.trace.now a.k) 64 0 (λ q l m. c.loop-r.invariant.1 z q (omega arith))
