-- A step of a safe program goes on along a walk. Assumes nothing.
use mathlib.Core.Path.{◌≡◌, refl, sym, ◌∙◌, subst}
use mathlib.Core.Bool.{Bool, true, false, false≢true}
use mathlib.Core.List.Memᴰ
use mathlib.Core.List.{List, ◌∷◌}
use Prim.Native.Nat.{ℕ, ◌+◌, ◌<◌, ◌≤◌}
use lib.Dec.{eqb}
use lib.IntN.{ℤ, pos, ◌+ℤ◌}
use borrow.Author.Tests.{lt-ltb, eqb-true}
use Rattle.bits.specs.Fields.{choose}
use Rattle.rows.specs.Rows.{row_of, rows}
use Rattle.record.specs.declared.instruction.Instruction.{Instruction}
use Rattle.record.specs.declared.instruction.Modifiers.{Modifiers}
use Rattle.record.specs.Registers.{ends, branches}
use Rattle.ops.specs.Rows.{jumps}
use Rattle.operations.specs.Replayable.{branchz_row, source_0}
use Rattle.operations.specs.Values.{worth}
use Rattle.container.specs.Container.{count_of}
use Rattle.container.proofs.OpeningLaws.{sized}
use Rattle.safety.specs.Program.{Program, WellFormed, successors, landing, machine}
use Rattle.walks.specs.Walks.{Inside, Walk, AllSafe}
use Rattle.machine.specs.Steps.{is_set, takes_branch, index_after}

-- BRANCHZ alone jumps, and it has an offset
branches_then : (row : ℕ) (m : Modifiers) (a : ℕ) → takes_branch row m a ≡ true → (row_of row).offset ≡ true
unfolding takes_branch rows
branches_then row m a e = go (eqb row branchz_row) refl e
  where
    go : (t : Bool) → eqb row branchz_row ≡ t → choose t (jumps (is_set m.m36) a) false ≡ true → (row_of row).offset ≡ true
    go true h q = rw (eqb-true row branchz_row h)
    go false h q = absurd (false≢true q)

below : {n : ℕ} (z : ℤ) → Inside n z → (j : ℕ) → z ≡ pos j → j < n
below z f j e = subst (λ (m : ℕ). m < _) (same (sym f.is ∙ e)) f.below
  where
    same : {a b : ℕ} → pos a ≡ pos b → a ≡ b
    same q = cc

-- an index inside is where it lands
lands : (n : ℕ) (z : ℤ) → Inside n z → (pos (landing n z) ≡ z) × (landing n z < n)
unfolding landing
lands n z f = subst (λ (y : ℤ). (pos (landing n y) ≡ y) × (landing n y < n)) (sym f.is) (rw (lt-ltb f.index n f.below) (refl, f.below))

module _ (p : Program) (safe : AllSafe (machine p)) {i : ℕ} {w : List ℕ} (walk : Walk (machine p) (i ∷ w)) (on : ends (p.instruction i) ≡ false) where
  abbrev x : Instruction
  x = p.instruction i

  next_follows : (machine p).follows i (pos (i + 1))
  unfolding machine successors
  next_follows = rw on (Memᴰ.head refl)

  jump_follows : branches x ≡ true → (machine p).follows i (pos (i + 1) +ℤ x.offset)
  unfolding machine successors
  jump_follows b = rw (on, b) (Memᴰ.tail (Memᴰ.head refl))

  inside : (z : ℤ) → (machine p).follows i z → Inside p.count z
  unfolding machine
  inside z f = (safe (i ∷ w) walk).0.stays z f

  pub goes : (uniforms registers : List ℕ) → (machine p).follows i (pos (index_after uniforms p.count i x registers)) × (index_after uniforms p.count i x registers < p.count)
  unfolding index_after
  goes uniforms registers = go (takes_branch x.row x.modifiers (worth registers uniforms (source_0 x))) refl
    where
      go : (t : Bool) → takes_branch x.row x.modifiers (worth registers uniforms (source_0 x)) ≡ t
          → (machine p).follows i (pos (choose t (landing p.count (pos (i + 1) +ℤ x.offset)) (i + 1))) × (choose t (landing p.count (pos (i + 1) +ℤ x.offset)) (i + 1) < p.count)
      go true e =
          let f = jump_follows (branches_then x.row x.modifiers _ e) in
          let l = lands p.count (pos (i + 1) +ℤ x.offset) (inside _ f) in
          (subst (λ (z : ℤ). (machine p).follows i z) (sym l.0) f, l.1)
      go false e = (next_follows, below (pos (i + 1)) (inside _ next_follows) (i + 1) refl)

-- a well-formed container has as many instructions as there can be, or fewer
pub fewer : (s : List ℕ) → WellFormed s → count_of s ≤ 2048
fewer s f = (sized s f.opens).few
