use mathlib.Core.Path.{ap₂, ◌∙◌}
use mathlib.Core.Bool.{Bool}
use Prim.Native.Nat.{ℕ}
use Rattle.bits.specs.Fields.{choose}
use Rattle.record.proofs.RegisterLaws.{halves_written}
use Rattle.record.proofs.instruction.Instruction.writes.Goals as goal

pub returns : goal.returns
returns c =
    halves_written c.args.self
    (c.set_if-s.ensures ∙ ap₂ (λ (d : Bool) (s : ℕ). choose d s 0) c.has_destination.ensures c.single.ensures)
    c.set_if.ensures c.set_if-2.ensures
