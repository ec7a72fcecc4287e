-- Looking for the lowest instruction that a replay refuses. Assumes nothing.
use mathlib.Core.Path.{◌≡◌, refl, sym, ap, ◌∙◌}
use mathlib.Core.Bool.{Bool, true, false}
use Rattle.std.specs.Prelude.{None, Some}
use Rattle.reasons.specs.declared.Reason.{Reason}
use Rattle.reasons.specs.declared.Reason.TheVariants.{NotReplayable, UniformMissing}
use Rattle.reasons.specs.Numbers.{number_of}
use Rattle.bits.specs.Fields.{choose}
use mathlib.Core.List.{List}
use Prim.Native.Nat.{ℕ, ◌+◌, ◌<◌, ◌≤◌}
use native.Mathlib.Omega.{arith}
use lib.ListN.{length}
use borrow.Author.Tests.{eq-eqb, ne_eqb}
use Rattle.bits.specs.Outcomes.{refuses, passes, first}
use Rattle.bits.proofs.FirstLaws.{first_more, first_stop}
use Rattle.container.specs.Container.{count_of}
use Rattle.record.specs.declared.instruction.Instruction.{Instruction}
use Rattle.safety.specs.Program.{program_of}
use Rattle.safety.specs.Verdict.{Judgement, plain}
use Rattle.operations.specs.Replayable.{supplied, all_three, replayable, fault}
use Rattle.operations.specs.declared.Operation.{Operation}
use Rattle.operations.specs.Served.Operations.{fault_reason, fault_number, operation_of}
use Rattle.replay.specs.Replay.{judge_fault, judge_faults}

-- the judgement of each instruction
abbrev pub each_fault : List ℕ → List ℕ → ℕ → Judgement
each_fault s uniforms i = judge_fault (length uniforms) i ((program_of s).instruction i)

-- the number of the reason
numbered : (n : ℕ) (x : Instruction) → fault_number (fault_reason n x) ≡ fault n x
unfolding fault_reason fault
numbered n x = go (replayable x) (all_three (supplied n) x)
  where
    go : (t u : Bool) → fault_number (choose t (choose u None (Some UniformMissing)) (Some NotReplayable)) ≡ choose t (choose u 0 31) 30
    go true true = refl
    go true false = refl
    go false u = refl

-- is none that stands for no refusal
faulty : (n : ℕ) (x : Instruction) {r : Reason} → fault_reason n x ≡ Some r → fault n x ≡ 0 → ⊥
unfolding fault_reason fault
faulty n x {r} e z = go (replayable x) (all_three (supplied n) x) e z
  where
    go : (t u : Bool) → choose t (choose u None (Some UniformMissing)) (Some NotReplayable) ≡ Some r → ◌≡◌ {A = ℕ} (choose t (choose u 0 31) 30) 0 → ⊥
    go true true e z = let y : ◌≡◌ {A = ℕ} 0 1 = cc in omega arith
    go true false e z = omega arith
    go false u e z = omega arith

module _ (s uniforms : List ℕ) (i : ℕ) (none_yet : first (each_fault s uniforms) i ≡ passes) where
  abbrev x : Instruction
  x = (program_of s).instruction i

  pub all_well : count_of s ≤ i → i ≤ count_of s → passes ≡ judge_faults s uniforms
  unfolding judge_faults
  all_well l h = let e : i ≡ count_of s = omega arith in sym none_yet ∙ ap (first (each_fault s uniforms)) e

  module _ {o : Operation} (is : o ≡ operation_of uniforms (count_of s) i x) where
    of_operation : o.fault ≡ fault_reason (length uniforms) x
    unfolding operation_of
    of_operation = ap (λ (z : Operation). z.fault) is

    pub at_fault : i < count_of s → {r : Reason} → o.fault ≡ Some r → {k : ℕ} → k ≡ number_of r → {j : Judgement} → j ≡ refuses (plain k 0 i) → j ≡ judge_faults s uniforms
    unfolding judge_faults
    at_fault l {r} h {k} w e =
        let there : fault_reason (length uniforms) x ≡ Some r = sym of_operation ∙ h in
        let same : k ≡ fault (length uniforms) x = w ∙ sym (ap fault_number there) ∙ numbered (length uniforms) x in
        e ∙ ap (λ (m : ℕ). refuses (plain m 0 i)) same ∙ sym (first_stop (each_fault s uniforms) i (count_of s) l none_yet (rw (ne_eqb (fault (length uniforms) x) 0 (faulty (length uniforms) x there))))

    pub goes_on : o.fault ≡ None → first (each_fault s uniforms) (i + 1) ≡ passes
    goes_on h =
        let zero : fault (length uniforms) x ≡ 0 = sym (numbered (length uniforms) x) ∙ ap fault_number (sym of_operation ∙ h) in
        first_more (each_fault s uniforms) i none_yet (rw (eq-eqb (fault (length uniforms) x) 0 zero))
