use mathlib.Core.Path.{◌≡◌}
use Rattle.sweeps.specs.Served.Plan.{swept_list}
use Rattle.sweeps.proofs.sweeps.Plan.sweep.Given as goal

abbrev pub invariant-loop-i : goal.invariant-loop-i
invariant-loop-i l = l.new ≡ swept_list l.self.kills.now l.self.fills.now l.self.falls.now l.self.jumps.now l.old l.initial.new l.i
