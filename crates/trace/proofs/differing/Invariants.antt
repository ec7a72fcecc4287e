use Prim.Native.Nat.{◌≤◌}
use Rattle.trace.specs.Trace.{unlike}
use Rattle.trace.proofs.LowestLaws.{NoneBelow}
use Rattle.trace.proofs.differing.Given as goal

abbrev pub invariant-loop-r : goal.invariant-loop-r
invariant-loop-r l = (l.n ≤ l.r) × NoneBelow (unlike l.registers l.trace l.k) l.n l.r
