use mathlib.Core.Path.{◌≡◌}
use Prim.Native.Nat.{◌-◌}
use Rattle.bits.specs.Lists.{kth}
use Rattle.differences.specs.Differences.{content_lines}
use Rattle.diff.specs.Served.Cursor.{remaining}
use Rattle.diff.proofs.content_line.Given as goal

abbrev pub invariant-loop-i : goal.invariant-loop-i
invariant-loop-i l = kth (content_lines l.first l.second) l.k ≡ kth (remaining l.first l.second l.at l.xs l.ys) (l.k - l._i)
