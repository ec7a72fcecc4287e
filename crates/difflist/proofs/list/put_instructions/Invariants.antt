use Rattle.differences.specs.Differences.{lines_from, instruction_lines}
use Rattle.difflist.specs.Served.Placed.{Placed}
use Rattle.difflist.proofs.list.put_instructions.Given as goal

abbrev pub invariant-loop-i : goal.invariant-loop-i
invariant-loop-i l = Placed (lines_from (instruction_lines l.first l.second) 0 l.i) l.k l.initial.out l.out l.n
