-- A step of an operation is the step of its instruction. Assumes nothing.
use mathlib.Core.Path.{◌≡◌, refl, ap, ◌∙◌}
use mathlib.Core.Bool.{Bool, true, false}
use mathlib.Core.List.{List}
use Prim.Native.Nat.{ℕ, ◌<◌, ◌≤◌}
use lib.Dec.{eqb}
use lib.ListN.{set}
use borrow.Author.Tests.{lt-ltb, le-ltb, eqb-true}
use Rattle.std.specs.Prelude.{Option, None, Some, unwrap_or}
use Rattle.bits.specs.Fields.{choose}
use Rattle.rows.specs.Rows.{row_of}
use Rattle.rows.specs.Sources.{meaning}
use Rattle.record.specs.declared.instruction.Instruction.{Instruction}
use Rattle.record.specs.declared.instruction.Modifiers.{Modifiers}
use Rattle.operations.specs.declared.op.Op.{Op}
use Rattle.operations.specs.declared.op.Op.TheVariants.{Nop, Branchz, Mov, Clz, Popcount, Bitrev, Not, Fadd, Mux}
use Rattle.operations.specs.Served.Operations.{op_of, operand_worth, operation_of}
use Rattle.operations.specs.declared.Operation.{Operation}
use Rattle.machine.specs.declared.Effect.{Effect}
use Rattle.operations.proofs.OperandLaws.{worth_same}
use Rattle.fadd.specs.Single.{fadd}
use Rattle.ops.specs.Rows.{clz, popcount, bitrev, complement, mux}
use Rattle.machine.specs.Steps.{is_set, row_result, takes_branch, registers_after, index_after}
use Rattle.machine.specs.Served.InPlace.{op_result, op_jumps, effect, effect_on, put, stored}

-- an operation writes what its row writes
pub same_result : (row : ℕ) (m : Modifiers) (a b c : ℕ) → op_result (unwrap_or (op_of row) Nop) m a b c ≡ row_result row m a b c
unfolding op_result op_of row_result
same_result row m a b c = go (eqb row 0) refl (eqb row 1) refl
  where
    rest : (t30 t31 t37 t38 t39 t53 t55 : Bool)
        → op_result (unwrap_or (choose t30 (Some Mov) (choose t31 (Some Clz) (choose t37 (Some Popcount) (choose t38 (Some Bitrev) (choose t39 (Some Not) (choose t53 (Some Fadd) (choose t55 (Some Mux) None))))))) Nop) m a b c
        ≡ choose t30 a (choose t31 (clz a) (choose t37 (popcount a) (choose t38 (bitrev a) (choose t39 (complement a) (choose t53 (fadd (is_set m.m38) (is_set m.m39) (is_set m.m36) (is_set m.m37) m.m32 a b) (choose t55 (mux m.m32 a b c) 0))))))
    rest true _ _ _ _ _ _ = refl
    rest false true _ _ _ _ _ = refl
    rest false false true _ _ _ _ = refl
    rest false false false true _ _ _ = refl
    rest false false false false true _ _ = refl
    rest false false false false false true _ = refl
    rest false false false false false false true = refl
    rest false false false false false false false = refl

    go : (t : Bool) → eqb row 0 ≡ t → (u : Bool) → eqb row 1 ≡ u → op_result (unwrap_or (op_of row) Nop) m a b c ≡ row_result row m a b c
    go true e u d = rw (eqb-true row 0 e) refl
    go false e true d = rw (eqb-true row 1 d) refl
    go false e false d = rw (e, d) (rest (eqb row 30) (eqb row 31) (eqb row 37) (eqb row 38) (eqb row 39) (eqb row 53) (eqb row 55))

-- and jumps where its row does
pub same_jumps : (row : ℕ) (m : Modifiers) (a : ℕ) → op_jumps (unwrap_or (op_of row) Nop) m a ≡ takes_branch row m a
unfolding op_jumps op_of takes_branch
same_jumps row m a = go (eqb row 1) refl
  where
    rest : (t0 t30 t31 t37 t38 t39 t53 t55 : Bool)
        → op_jumps (unwrap_or (choose t0 (Some Nop) (choose t30 (Some Mov) (choose t31 (Some Clz) (choose t37 (Some Popcount) (choose t38 (Some Bitrev) (choose t39 (Some Not) (choose t53 (Some Fadd) (choose t55 (Some Mux) None)))))))) Nop) m a ≡ false
    rest true _ _ _ _ _ _ _ = refl
    rest false true _ _ _ _ _ _ = refl
    rest false false true _ _ _ _ _ = refl
    rest false false false true _ _ _ _ = refl
    rest false false false false true _ _ _ = refl
    rest false false false false false true _ _ = refl
    rest false false false false false false true _ = refl
    rest false false false false false false false true = refl
    rest false false false false false false false false = refl

    go : (t : Bool) → eqb row 1 ≡ t → op_jumps (unwrap_or (op_of row) Nop) m a ≡ takes_branch row m a
    go true e = rw (eqb-true row 1 e) refl
    go false e = rw e (rest (eqb row 0) (eqb row 30) (eqb row 31) (eqb row 37) (eqb row 38) (eqb row 39) (eqb row 53) (eqb row 55))

-- what jumps writes nothing
pub jumps_write_none : (op : Op) (m : Modifiers) (a b c : ℕ) → op_jumps op m a ≡ true → op_result op m a b c ≡ 0
unfolding op_result op_jumps
jumps_write_none Nop m a b c h = refl
jumps_write_none Branchz m a b c h = refl
jumps_write_none Mov m a b c h = cc
jumps_write_none Clz m a b c h = cc
jumps_write_none Popcount m a b c h = cc
jumps_write_none Bitrev m a b c h = cc
jumps_write_none Not m a b c h = cc
jumps_write_none Fadd m a b c h = cc
jumps_write_none Mux m a b c h = cc

-- what an operation does, found from its operands, of which the second and the third need only give what it writes
pub found : (o : Operation) (i : ℕ) (registers : List ℕ) {a : ℕ} (b c : ℕ) {e : Effect} → a ≡ operand_worth registers o.a
    → ((a : ℕ) → op_result o.op o.modifiers a b c ≡ op_result o.op o.modifiers a (operand_worth registers o.b) (operand_worth registers o.c))
    → e ≡ effect o i a b c → e ≡ effect_on o i registers
found o i registers {a} b c p q s = let r = q a in cc

pub writes_one : (o : Operation) (i : ℕ) (registers : List ℕ) {d : ℕ} {e : Effect} → o.register ≡ Some d → d < 64 → e ≡ effect_on o i registers → set registers d e.number ≡ stored o i registers
unfolding put
writes_one o i registers {d} r l p = rw (r, lt-ltb d 64 l) (ap (λ (z : Effect). set registers d z.number) p)

pub writes_past : (o : Operation) (i : ℕ) (registers : List ℕ) {d : ℕ} → o.register ≡ Some d → 64 ≤ d → registers ≡ stored o i registers
unfolding put
writes_past o i registers {d} r l = rw (r, le-ltb d 64 l)

pub writes_none : (o : Operation) (i : ℕ) (registers : List ℕ) → o.register ≡ None → registers ≡ stored o i registers
unfolding put
writes_none o i registers r = rw r

-- what is written, where there is such a register
written_by : (d : Bool) (r : ℕ) (registers : List ℕ) (v : ℕ) → r < 64 → put (choose d (Some r) None) v registers ≡ choose d (set registers r v) registers
unfolding put
written_by false r registers v h = refl
written_by true r registers v h = rw (lt-ltb r 64 h)

module _ (uniforms : List ℕ) (n i : ℕ) (x : Instruction) (registers : List ℕ) where
  pub same_registers : x.register < 64 → stored (operation_of uniforms n i x) i registers ≡ registers_after uniforms x registers
  unfolding operation_of registers_after
  same_registers h =
      written_by (row_of x.row).destination x.register registers _ h
      ∙ rw (same_result x.row, worth_same registers uniforms (meaning x.page x.sources.s0), worth_same registers uniforms (meaning x.page x.sources.s1), worth_same registers uniforms (meaning x.page x.sources.s2))

  pub same_index : (effect_on (operation_of uniforms n i x) i registers).next ≡ index_after uniforms n i x registers
  unfolding operation_of index_after
  same_index = rw (same_jumps x.row, worth_same registers uniforms (meaning x.page x.sources.s0))
