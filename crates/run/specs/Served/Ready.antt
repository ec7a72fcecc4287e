-- A program whose instructions the code has made ready.
use Rattle.std.specs.Prelude.{◌≡◌, List, ℕ, ◌<◌, get_or}
use Rattle.container.specs.Container.{count_of}
use Rattle.safety.specs.Program.{program_of, machine_of, WellFormed}
use Rattle.walks.specs.Walks.{AllSafe}
use Rattle.operations.specs.declared.Operation.{Operation}
use Rattle.operations.specs.Served.Operations.{operation_of}

-- it is well-formed and safe, no instruction writes a register past r63, and each of its instructions stands in the list as an operation
pub record Ready (s uniforms : List ℕ) (program : List Operation) : Type 0 where
  pub safe : WellFormed s × AllSafe (machine_of s)
  pub small : (i : ℕ) → i < count_of s → ((program_of s).instruction i).register < 64
  pub stands : (i : ℕ) (none : Operation) → i < count_of s → get_or program i none ≡ operation_of uniforms (count_of s) i ((program_of s).instruction i)
