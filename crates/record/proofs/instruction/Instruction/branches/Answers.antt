use mathlib.Core.Path.{sym}
use Rattle.record.proofs.RegisterLaws.{ranged}
use Rattle.record.proofs.instruction.Instruction.branches.Goals as goal

pub returns : goal.returns
returns c = sym (ranged _).offset
