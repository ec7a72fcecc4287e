use Prim.Native.Nat.{◌<◌}
use Rattle.container.specs.Container.{count_of}
use Rattle.safety.specs.Program.{program_of}
use Rattle.run.proofs.RunLaws.{Here}
use Rattle.run.proofs.run.Given as goal

abbrev pub invariant-loop-k : goal.invariant-loop-k
invariant-loop-k l = (l.i < count_of l.bytes) × Here (program_of l.bytes) l.uniforms l.initial.registers l.trace l.limit l.registers l.i l.k
