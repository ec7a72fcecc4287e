-- One step of the machine: what an instruction leaves in the registers, and which instruction follows (02, Item 8; 002's rows).
use Rattle.std.specs.Prelude.{Bool, false, List, ℕ, ◌+◌, eqb, pos, ◌+ℤ◌, set}
use Rattle.bits.specs.Fields.{choose}
use Rattle.rows.specs.Rows.{row_of}
use Rattle.record.specs.declared.instruction.Instruction.{Instruction}
use Rattle.record.specs.declared.instruction.Modifiers.{Modifiers}
use Rattle.fadd.specs.Single.{fadd}
use Rattle.ops.specs.Rows.{clz, popcount, bitrev, complement, mux, jumps}
use Rattle.safety.specs.Program.{Program, landing}
use Rattle.operations.specs.Replayable.{branchz_row, mov_row, clz_row, popcount_row, bitrev_row, not_row, fadd_row, mux_row, source_0, source_1, source_2}
use Rattle.operations.specs.Values.{worth}

-- a modifier of one bit is set
abbrev pub is_set : ℕ → Bool
is_set b = eqb b 1

-- what a row writes, from what its sources are worth; 0 for a row that writes nothing. FADD.f32 has negate and absolute of source 0 at bits 38
-- and 39, of source 1 at 36 and 37, and its clamp at 32, where MUX.i32 has its mode.
unfoldable pub row_result : ℕ → Modifiers → ℕ → ℕ → ℕ → ℕ
row_result row m a b c =
    choose (eqb row mov_row) a
    (choose (eqb row clz_row) (clz a)
    (choose (eqb row popcount_row) (popcount a)
    (choose (eqb row bitrev_row) (bitrev a)
    (choose (eqb row not_row) (complement a)
    (choose (eqb row fadd_row) (fadd (is_set m.m38) (is_set m.m39) (is_set m.m36) (is_set m.m37) m.m32 a b)
    (choose (eqb row mux_row) (mux m.m32 a b c) 0))))))

-- whether it jumps: BRANCHZ, by its source and by eq, at bit 36; conservative, at bit 35, plays no part
unfoldable pub takes_branch : ℕ → Modifiers → ℕ → Bool
takes_branch row m a = choose (eqb row branchz_row) (jumps (is_set m.m36) a) false

-- the machine between two steps: its registers' contents and the index of the instruction to run
pub record State : Type 0 where
  pub registers : List ℕ
  pub index : ℕ

-- what an instruction writes, from the registers before it
abbrev pub written : List ℕ → Instruction → List ℕ → ℕ
written uniforms x registers =
    row_result x.row x.modifiers (worth registers uniforms (source_0 x)) (worth registers uniforms (source_1 x)) (worth registers uniforms (source_2 x))

-- the registers after it: what it writes is in its destination, if its row has one
unfoldable pub registers_after : List ℕ → Instruction → List ℕ → List ℕ
registers_after uniforms x registers = choose (row_of x.row).destination (set registers x.register (written uniforms x registers)) registers

-- the index of the instruction after instruction i of n: the one that its offset names, counted from the next, where it jumps; else the next
unfoldable pub index_after : List ℕ → ℕ → ℕ → Instruction → List ℕ → ℕ
index_after uniforms n i x registers =
    choose (takes_branch x.row x.modifiers (worth registers uniforms (source_0 x))) (landing n (pos (i + 1) +ℤ x.offset)) (i + 1)

-- one step of a program
unfoldable pub after : Program → List ℕ → State → State
unfolding registers_after index_after
after p uniforms s = record {
  registers = registers_after uniforms (p.instruction s.index) s.registers;
  index = index_after uniforms p.count s.index (p.instruction s.index) s.registers;
}
