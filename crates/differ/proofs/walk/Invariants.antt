use mathlib.Core.Path.{◌≡◌}
use Prim.Native.Nat.{◌≤◌}
use lib.ListN.{length, drop}
use Rattle.differences.specs.Differences.{differences}
use Rattle.diff.specs.Served.Cursor.{remaining}
use Rattle.differ.proofs.walk.Given as goal

abbrev pub invariant-loop-k : goal.invariant-loop-k
invariant-loop-k g l = (l.k ≤ length (differences l.first l.second)) × (remaining l.first l.second l.at l.xs l.ys ≡ drop l.k (differences l.first l.second))
