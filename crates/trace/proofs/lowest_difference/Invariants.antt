use mathlib.Core.Path.{◌≡◌}
use Prim.Native.Nat.{◌-◌}
use Rattle.bits.specs.Sets.{lowest_from}
use Rattle.trace.specs.Trace.{unlike}
use Rattle.trace.proofs.lowest_difference.Given as goal

abbrev pub invariant-loop-r : goal.invariant-loop-r
invariant-loop-r l = lowest_from (unlike l.registers l.trace l.k) (64 - l.r) l.r ≡ lowest_from (unlike l.registers l.trace l.k) 64 0
