use mathlib.Core.Path.{sym, ap}
use Rattle.rows.specs.Names.{ascii}
use Rattle.replayer.specs.Replaying.{fault_line}
use Rattle.replayer.proofs.fault_line.Goals as goal

pub returns-in-Short : goal.returns-in-Short
unfolding ascii
returns-in-Short c = ap fault_line (sym c.in-Short.is)

pub returns-in-Kind : goal.returns-in-Kind
unfolding ascii
returns-in-Kind c = ap fault_line (sym c.in-Kind.is)

pub returns-in-Counts : goal.returns-in-Counts
unfolding ascii
returns-in-Counts c = ap fault_line (sym c.in-Counts.is)

pub returns-in-Cut : goal.returns-in-Cut
unfolding ascii
returns-in-Cut c = ap fault_line (sym c.in-Cut.is)
