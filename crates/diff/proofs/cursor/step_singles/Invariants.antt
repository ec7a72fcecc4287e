use mathlib.Core.Path.{◌≡◌}
use Rattle.diffparts.specs.Served.Parts.{singles_from}
use Rattle.diff.proofs.cursor.step_singles.Given as goal

abbrev pub invariant-loop-p : goal.invariant-loop-p
invariant-loop-p l = singles_from l.first l.second l.from ≡ singles_from l.first l.second l.p
