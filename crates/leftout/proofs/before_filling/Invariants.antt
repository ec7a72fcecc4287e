use mathlib.Core.Path.{◌≡◌}
use lib.ListN.{drop}
use Rattle.leftout.specs.Served.Tables.{before_filling}
use Rattle.leftout.proofs.before_filling.Given as goal

abbrev pub invariant-loop-n : goal.invariant-loop-n
invariant-loop-n l = before_filling (drop l.n l.s) ≡ 0
