use mathlib.Core.Path.{◌≡◌}
use mathlib.Core.List.{[]}
use lib.ListN.{length}
use Rattle.bits.specs.Halves.{lower, upper, both}
use Rattle.bits.specs.Outcomes.{passes, first}
use Rattle.safety.specs.Program.{program_in}
use Rattle.safety.specs.Verdict.{judge_word}
use Rattle.sweeps.specs.Served.Plan.{Planned, Sized}
use Rattle.sweeps.proofs.plan.make_plan.Given as goal

abbrev pub invariant-loop-i : goal.invariant-loop-i
invariant-loop-i l = Sized l.kills l.lows l.falls l.jumps l.n × (length l.highs ≡ l.n) × (first (judge_word l.words) l.i ≡ passes) × Planned (program_in l.version l.words [] l.n (both 0)) lower l.kills l.lows l.falls l.jumps l.i × Planned (program_in l.version l.words [] l.n (both 0)) upper l.kills l.highs l.falls l.jumps l.i
