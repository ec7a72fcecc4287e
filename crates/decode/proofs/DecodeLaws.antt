-- One operation more in the list. Assumes nothing.
use mathlib.Core.Path.{◌≡◌, sym, ap, ◌∙◌, subst}
use mathlib.Core.Logic.{◌⊎◌, ⊎_elim}
use mathlib.Core.List.{List}
use Prim.Native.Nat.{ℕ, ◌+◌, ◌<◌}
use native.Mathlib.Nat.{eq-or-lt_of_le}
use native.Mathlib.Omega.{arith}
use lib.ListN.{get_or, set, length}
use lib.Seq.{get_or-set_same, get_or-set_other}
use Rattle.bits.specs.Outcomes.{Outcome, gives, refuses}
use Rattle.record.specs.declared.instruction.Instruction.{Instruction}
use Rattle.record.specs.declared.answer.Refusal.{Refusal}
use Rattle.reading.specs.Reader.{read}
use Rattle.container.specs.Container.{eight}
use Rattle.safety.specs.Program.{instruction_in, instruction_at}
use Rattle.operations.specs.declared.Operation.{Operation}
use Rattle.operations.specs.Served.Operations.{operation_of}
use Rattle.decode.specs.Served.Decoded.{AllRead, Decoded}

module _ (words uniforms : List ℕ) (n : ℕ) where
  pub one_more : (i : ℕ) (program : List Operation) {o : Operation} → i < length program → Decoded words uniforms n i program
      → o ≡ operation_of uniforms n i (instruction_at words i) → Decoded words uniforms n (i + 1) (set program i o)
  one_more i program {o} h d e j none l =
      ⊎_elim
      (λ q. subst (λ (k : ℕ). get_or (set program i o) k none ≡ operation_of uniforms n k (instruction_at words k)) (sym q) (get_or-set_same program i o none h ∙ e))
      (λ m. get_or-set_other program i j o none (λ q. omega arith) ∙ d j none m)
      (split j l)
    where
      split : (j : ℕ) → j < i + 1 → (j ≡ i) ⊎ (j < i)
      split j l = eq-or-lt_of_le (omega arith)

  -- the operation of a word that was read
  pub of_read : (i : ℕ) {x : Instruction} {o : Operation} → gives x ≡ read (eight words i) → o ≡ operation_of uniforms n i x
      → o ≡ operation_of uniforms n i (instruction_at words i)
  unfolding instruction_at
  of_read i e p = p ∙ ap (λ (y : Outcome Refusal Instruction). operation_of uniforms n i (instruction_in y)) e

  -- no word is refused
  pub never : AllRead words n → (i : ℕ) → i < n → {f : Refusal} → refuses f ≡ read (eight words i) → ⊥
  never all i l e = let z : ◌≡◌ {A = ℕ} 0 1 = cc (all i l).1 in omega arith
