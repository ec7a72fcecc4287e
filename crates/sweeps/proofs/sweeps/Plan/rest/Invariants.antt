use mathlib.Core.Path.{◌≡◌}
use lib.ListN.{length}
use Rattle.bits.specs.Halves.{Half}
use Rattle.safety.specs.Program.{Program}
use Rattle.sweeps.specs.Served.Plan.{Begun}
use Rattle.sweeps.proofs.LoopLaws.{Running}
use Rattle.sweeps.proofs.sweeps.Plan.rest.Given as goal

abbrev pub invariant-loop-k : goal.invariant-loop-k
invariant-loop-k l = (length l.new ≡ length l.initial.notes) × (length l.notes ≡ length l.initial.notes) × ((p : Program) (h : Half) → Begun p h l.self.kills.now l.self.fills.now l.self.falls.now l.self.jumps.now l.initial.notes → Running p h l.new l.notes l.k)
