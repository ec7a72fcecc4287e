use Prim.Native.Nat.{◌-◌}
use Rattle.differences.specs.Differences.{lines_from}
use Rattle.diffparts.specs.Served.Parts.{single_lines}
use Rattle.difflist.specs.Served.Placed.{Placed}
use Rattle.difflist.proofs.list.put_parts.Given as goal

abbrev pub invariant-loop-p : goal.invariant-loop-p
invariant-loop-p l = Placed (lines_from (single_lines l.first l.second) l.initial.p (l.p - l.initial.p)) l.k l.initial.out l.out l.l
