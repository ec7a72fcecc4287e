use lib.ListN.{length}
use mathlib.Core.Path.{◌≡◌}
use Prim.Native.Nat.{◌≤◌}
use Rattle.wordtext.specs.Columns.{longest_column}
use Rattle.showlines.specs.Lines.{widest}
use Rattle.showlines.proofs.line.widest.Given as goal

abbrev pub invariant-loop-i : goal.invariant-loop-i
invariant-loop-i l = (l.most ≡ widest l.words l.n l.i) × (l.most ≤ longest_column) × (length l.column ≡ longest_column)
