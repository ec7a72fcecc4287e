use mathlib.Core.Path.{◌≡◌}
use Rattle.showlines.specs.Served.Marks.{marks_of}
use Rattle.showlines.proofs.targets.targets.Given as goal

abbrev pub invariant-loop-i : goal.invariant-loop-i
invariant-loop-i l = l.marks ≡ marks_of l.words l.n l.i
