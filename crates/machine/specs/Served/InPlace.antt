-- A step of an operation, as the code takes it. This serves speed, and no promise speaks of it.
use Rattle.std.specs.Prelude.{Bool, false, List, ℕ, ◌+◌, ltb, set, Option, None, Some}
use Rattle.bits.specs.Fields.{choose}
use Rattle.record.specs.declared.instruction.Modifiers.{Modifiers}
use Rattle.fadd.specs.Single.{fadd}
use Rattle.ops.specs.Rows.{clz, popcount, bitrev, complement, mux, jumps}
use Rattle.operations.specs.declared.op.Op.{Op}
use Rattle.operations.specs.declared.op.Op.TheVariants.{Nop, Branchz, Mov, Clz, Popcount, Bitrev, Not, Fadd, Mux}
use Rattle.operations.specs.declared.Operation.{Operation}
use Rattle.operations.specs.Served.Operations.{operand_worth}
use Rattle.machine.specs.declared.Effect.{Effect}
use Rattle.machine.specs.Steps.{is_set}

-- what one of the nine rows writes, from what its sources are worth; 0 where it writes nothing
unfoldable pub op_result : Op → Modifiers → ℕ → ℕ → ℕ → ℕ
op_result Nop m a b c = 0
op_result Branchz m a b c = 0
op_result Mov m a b c = a
op_result Clz m a b c = clz a
op_result Popcount m a b c = popcount a
op_result Bitrev m a b c = bitrev a
op_result Not m a b c = complement a
op_result Fadd m a b c = fadd (is_set m.m38) (is_set m.m39) (is_set m.m36) (is_set m.m37) m.m32 a b
op_result Mux m a b c = mux m.m32 a b c

-- whether it jumps
unfoldable pub op_jumps : Op → Modifiers → ℕ → Bool
op_jumps Nop m a = false
op_jumps Branchz m a = jumps (is_set m.m36) a
op_jumps Mov m a = false
op_jumps Clz m a = false
op_jumps Popcount m a = false
op_jumps Bitrev m a = false
op_jumps Not m a = false
op_jumps Fadd m a = false
op_jumps Mux m a = false

-- what an operation at index i does, from what its operands are worth: the number that it writes, and the index of the next instruction
abbrev pub effect : Operation → ℕ → ℕ → ℕ → ℕ → Effect
effect o i a b c = record {
  number = op_result o.op o.modifiers a b c;
  next = choose (op_jumps o.op o.modifiers a) o.jump (i + 1);
}

abbrev pub effect_on : Operation → ℕ → List ℕ → Effect
effect_on o i registers = effect o i (operand_worth registers o.a) (operand_worth registers o.b) (operand_worth registers o.c)

-- registers with a number in one of them, if there is such a one
unfoldable pub put : Option ℕ → ℕ → List ℕ → List ℕ
put None v registers = registers
put (Some r) v registers = choose (ltb r 64) (set registers r v) registers

-- the registers after an operation
abbrev pub stored : Operation → ℕ → List ℕ → List ℕ
stored o i registers = put o.register (effect_on o i registers).number registers
