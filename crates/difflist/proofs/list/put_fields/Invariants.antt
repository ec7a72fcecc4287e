use Rattle.differences.specs.Differences.{lines_from}
use Rattle.diff.specs.Served.Cursor.{field_line}
use Rattle.difflist.specs.Served.Placed.{Placed}
use Rattle.difflist.proofs.list.put_fields.Given as goal

abbrev pub invariant-loop-f : goal.invariant-loop-f
invariant-loop-f l = Placed (lines_from (field_line l.index l.xs l.ys) 0 l.f) l.k l.initial.out l.out l.n
