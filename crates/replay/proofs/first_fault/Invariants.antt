use mathlib.Core.Path.{◌≡◌}
use Rattle.bits.specs.Outcomes.{passes, first}
use Rattle.replay.proofs.FaultLaws.{each_fault}
use Rattle.replay.proofs.first_fault.Given as goal

abbrev pub invariant-loop-i : goal.invariant-loop-i
invariant-loop-i l = first (each_fault l.bytes l.uniforms) l.i ≡ passes
