use mathlib.Core.Path.{sym}
use Rattle.bits.specs.Outcomes.{refuses}
use Rattle.bits.proofs.OutcomeLaws.{left_by, stops, goes_on}
use Rattle.verifier.proofs.program.Words.unreadable_from.Goals as goal

pub returns-in_err-read_from : goal.returns-in_err-read_from
returns-in_err-read_from c = rw (left_by _ c.from_residual.ensures) (sym (stops (refuses c.args.f) c.in_err-read_from.ensures))

pub returns : goal.returns
returns c = sym (goes_on (refuses c.args.f) c.in_ok-read_from.ensures)
