-- The nine rows by number and as the code names them. Assumes nothing.
use mathlib.Core.Path.{◌≡◌, refl, sym, ap, ◌∙◌}
use mathlib.Core.Bool.{Bool, true, false, ◌||◌, ◌&&◌}
use Prim.Native.Nat.{ℕ}
use lib.Dec.{eqb}
use borrow.Author.Tests.{eqb-true}
use Rattle.std.specs.Prelude.{Option, None, Some, is_some}
use Rattle.bits.specs.Fields.{choose}
use Rattle.record.specs.declared.instruction.Instruction.{Instruction}
use Rattle.record.specs.declared.instruction.Modifiers.{Modifiers}
use Rattle.operations.specs.Replayable.{runs, takes_whole}
use Rattle.operations.specs.Served.Operations.{op_of, op_whole}
use Rattle.operations.specs.declared.op.Op.{Op}
use Rattle.operations.specs.declared.op.Op.TheVariants.{Nop, Mov, Clz, Popcount, Bitrev, Not, Mux}

-- the first of two is there, or else the other one
or_else : {A : Type 0} (t : Bool) (x : A) (o : Option A) {u : Bool} → is_some o ≡ u → is_some (choose t (Some x) o) ≡ t || u
or_else true x o e = refl
or_else false x o e = e

runs_by : (row : ℕ) → is_some (op_of row) ≡ runs row
unfolding op_of runs
runs_by row =
    or_else (eqb row 0) _ _ (or_else (eqb row 1) _ _ (or_else (eqb row 30) _ _ (or_else (eqb row 31) _ _ (or_else (eqb row 37) _ _ (or_else (eqb row 38) _ _ (or_else (eqb row 39) _ _ (or_else (eqb row 53) _ _ (or_else (eqb row 55) _ _ refl))))))))

pub runs_some : (row : ℕ) {op : Op} → op_of row ≡ Some op → runs row ≡ true
runs_some row e = sym (runs_by row) ∙ ap is_some e

pub runs_none : (row : ℕ) → op_of row ≡ None → runs row ≡ false
runs_none row e = sym (runs_by row) ∙ ap is_some e

-- combine and widen, also of another row
abbrev whole : Modifiers → Option Op → Bool
whole m None = true
whole m (Some op) = op_whole op m

whole_by : (row : ℕ) (m : Modifiers) → whole m (op_of row) ≡ choose (eqb row 1) (eqb m.m37 0) (choose (eqb row 53) (eqb m.m28 0 && eqb m.m26 0) true)
unfolding op_of op_whole
whole_by row m = go (eqb row 1) refl (eqb row 53) refl
  where
    rest : (t0 t30 t31 t37 t38 t39 t55 : Bool) → whole m (choose t0 (Some Nop) (choose t30 (Some Mov) (choose t31 (Some Clz) (choose t37 (Some Popcount) (choose t38 (Some Bitrev) (choose t39 (Some Not) (choose t55 (Some Mux) None))))))) ≡ true
    rest true _ _ _ _ _ _ = refl
    rest false true _ _ _ _ _ = refl
    rest false false true _ _ _ _ = refl
    rest false false false true _ _ _ = refl
    rest false false false false true _ _ = refl
    rest false false false false false true _ = refl
    rest false false false false false false true = refl
    rest false false false false false false false = refl

    go : (t : Bool) → eqb row 1 ≡ t → (u : Bool) → eqb row 53 ≡ u → whole m (op_of row) ≡ choose (eqb row 1) (eqb m.m37 0) (choose (eqb row 53) (eqb m.m28 0 && eqb m.m26 0) true)
    go true e u d = rw (eqb-true row 1 e) refl
    go false e true d = rw (eqb-true row 53 d) refl
    go false e false d = rw (e, d) (rest (eqb row 0) (eqb row 30) (eqb row 31) (eqb row 37) (eqb row 38) (eqb row 39) (eqb row 55))

pub whole_of : (x : Instruction) {op : Op} → op_of x.row ≡ Some op → op_whole op x.modifiers ≡ takes_whole x
unfolding takes_whole
whole_of x e = sym (ap (whole x.modifiers) e) ∙ whole_by x.row x.modifiers
