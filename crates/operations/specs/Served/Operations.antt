-- Operations: instructions as the code keeps them for a run. What stays the same for the whole run is looked up once. This serves speed, and
-- no promise speaks of it.
use Rattle.std.specs.Prelude.{Bool, true, ◌&&◌, List, ℕ, ◌+◌, eqb, pos, ◌+ℤ◌, get_or, length, Option, None, Some, unwrap_or}
use Rattle.bits.specs.Fields.{choose}
use Rattle.rows.specs.Rows.{row_of}
use Rattle.rows.specs.Sources.{Meaning, register_read, register_released, uniform, immediate, special, refused}
use Rattle.reasons.specs.declared.Reason.{Reason}
use Rattle.reasons.specs.declared.Reason.TheVariants.{NotReplayable, UniformMissing}
use Rattle.reasons.specs.Numbers.{number_of}
use Rattle.record.specs.declared.instruction.Instruction.{Instruction}
use Rattle.record.specs.declared.instruction.Modifiers.{Modifiers}
use Rattle.record.specs.Registers.{ends}
use Rattle.safety.specs.Program.{landing}
use Rattle.operations.specs.Replayable.{nop_row, branchz_row, mov_row, clz_row, popcount_row, bitrev_row, not_row, fadd_row, mux_row, source_0, source_1, source_2, supplied, all_three, replayable}
use Rattle.operations.specs.declared.op.Op.{Op}
use Rattle.operations.specs.declared.op.Op.TheVariants.{Nop, Branchz, Mov, Clz, Popcount, Bitrev, Not, Fadd, Mux}
use Rattle.operations.specs.declared.operand.Operand.{Operand}
use Rattle.operations.specs.declared.operand.Operand.TheVariants.{Register, Fixed}
use Rattle.operations.specs.declared.Operation.{Operation}

-- why an instruction is refused where there are n uniforms: the reason whose number `fault` is
unfoldable pub fault_reason : ℕ → Instruction → Option Reason
fault_reason n x = choose (replayable x) (choose (all_three (supplied n) x) None (Some UniformMissing)) (Some NotReplayable)

-- the number of such a reason, or 0
abbrev pub fault_number : Option Reason → ℕ
fault_number None = 0
fault_number (Some r) = number_of r

-- which of the nine rows a row is
unfoldable pub op_of : ℕ → Option Op
op_of row =
    choose (eqb row nop_row) (Some Nop)
    (choose (eqb row branchz_row) (Some Branchz)
    (choose (eqb row mov_row) (Some Mov)
    (choose (eqb row clz_row) (Some Clz)
    (choose (eqb row popcount_row) (Some Popcount)
    (choose (eqb row bitrev_row) (Some Bitrev)
    (choose (eqb row not_row) (Some Not)
    (choose (eqb row fadd_row) (Some Fadd)
    (choose (eqb row mux_row) (Some Mux) None))))))))

-- combine and widen, where it has them, are none
unfoldable pub op_whole : Op → Modifiers → Bool
op_whole Nop m = true
op_whole Branchz m = eqb m.m37 0
op_whole Mov m = true
op_whole Clz m = true
op_whole Popcount m = true
op_whole Bitrev m = true
op_whole Not m = true
op_whole Fadd m = eqb m.m28 0 && eqb m.m26 0
op_whole Mux m = true

abbrev pub operand_of : List ℕ → Meaning → Operand
operand_of uniforms (register_read r) = Register r
operand_of uniforms (register_released r) = Register r
operand_of uniforms (uniform u) = Fixed (get_or uniforms u 0)
operand_of uniforms (immediate v) = Fixed v
operand_of uniforms (special s p) = Fixed 0
operand_of uniforms refused = Fixed 0

-- what an operand is worth
unfoldable pub operand_worth : List ℕ → Operand → ℕ
operand_worth registers (Register r) = get_or registers r 0
operand_worth registers (Fixed v) = v

-- the register that an instruction writes
abbrev pub written_register : Instruction → Option ℕ
written_register x = choose (row_of x.row).destination (Some x.register) None

-- instruction i of n; of another row than the nine it does nothing
unfoldable pub operation_of : List ℕ → ℕ → ℕ → Instruction → Operation
operation_of uniforms n i x =
    record {
      fault = fault_reason (length uniforms) x;
      op = unwrap_or (op_of x.row) Nop;
      register = written_register x;
      ends = ends x;
      modifiers = x.modifiers;
      a = operand_of uniforms (source_0 x);
      b = operand_of uniforms (source_1 x);
      c = operand_of uniforms (source_2 x);
      jump = landing n (pos (i + 1) +ℤ x.offset);
    }
