-- The instructions of some words, made ready once for a run.
use Rattle.std.specs.Prelude.{◌≡◌, List, ℕ, ◌<◌, get_or}
use Rattle.bits.specs.Outcomes.{gives}
use Rattle.record.specs.declared.instruction.Instruction.{Instruction}
use Rattle.reading.specs.Reader.{read}
use Rattle.container.specs.Container.{eight}
use Rattle.safety.specs.Program.{instruction_at}
use Rattle.operations.specs.declared.Operation.{Operation}
use Rattle.operations.specs.Served.Operations.{operation_of}

-- each of n words reads
abbrev pub AllRead : List ℕ → ℕ → Type 0
AllRead words n = (i : ℕ) → i < n → (x : Instruction) × (read (eight words i) ≡ gives x)

-- the first k of n instructions stand in a list as operations
abbrev pub Decoded : List ℕ → List ℕ → ℕ → ℕ → List Operation → Type 0
Decoded words uniforms n k program = (i : ℕ) (none : Operation) → i < k → get_or program i none ≡ operation_of uniforms n i (instruction_at words i)
