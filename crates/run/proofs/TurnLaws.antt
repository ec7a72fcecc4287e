-- A turn of the loop, from the operation that stands for its instruction. Assumes nothing.
use mathlib.Core.Path.{◌≡◌, ap, ◌∙◌}
use mathlib.Core.Bool.{Bool, true, false}
use mathlib.Core.List.{List}
use Prim.Native.Nat.{ℕ, suc, ◌+◌, ◌≤◌, ◌<◌}
use Rattle.record.specs.declared.instruction.Instruction.{Instruction}
use Rattle.record.specs.Registers.{ends}
use Rattle.container.specs.Container.{count_of}
use Rattle.safety.specs.Program.{Program, program_of}
use Rattle.operations.specs.declared.Operation.{Operation}
use Rattle.operations.specs.Served.Operations.{operation_of}
use Rattle.machine.specs.Steps.{registers_after, index_after}
use Rattle.machine.specs.Served.InPlace.{effect_on, stored}
use Rattle.machine.proofs.StepLaws.{same_registers, same_index}
use Rattle.trace.specs.Trace.{difference}
use Rattle.run.specs.declared.Stop.TheVariants.{Differs, Ended}
use Rattle.run.specs.Run.{at, run}
use Rattle.run.specs.Served.Ready.{Ready}
use Rattle.run.proofs.RunLaws.{Here, left_is, differs, ended, onward}

module _ (uniforms : List ℕ) (n i : ℕ) (x : Instruction) (registers : List ℕ) {o : Operation} (is : o ≡ operation_of uniforms n i x) where
  left_by : {left : List ℕ} → x.register < 64 → left ≡ stored o i registers → left ≡ registers_after uniforms x registers
  left_by h e = e ∙ ap (λ (z : Operation). stored z i registers) is ∙ same_registers uniforms n i x registers h

  next_by : {j : ℕ} → j ≡ (effect_on o i registers).next → j ≡ index_after uniforms n i x registers
  next_by e = e ∙ ap (λ (z : Operation). (effect_on z i registers).next) is ∙ same_index uniforms n i x registers

  ends_by : o.ends ≡ ends x
  unfolding operation_of
  ends_by = ap (λ (z : Operation). z.ends) is

-- what a turn gives that leaves the registers `left`, finds r, has `end` or not, and goes on to j
pub record Turn (p : Program) (uniforms start trace : List ℕ) (limit k r : ℕ) (left : List ℕ) (end : Bool) (j : ℕ) : Type 0 where
  pub leaves : left ≡ (at p uniforms start (suc k)).registers
  pub differs : r < 64 → Differs k r ≡ run p uniforms start trace limit
  pub ends : 64 ≤ r → end ≡ true → Ended (suc k) ≡ run p uniforms start trace limit
  pub goes : 64 ≤ r → end ≡ false → Here p uniforms start trace limit left j (k + 1) × (j < p.count)

pub turn : (s uniforms start trace : List ℕ) {program : List Operation} → Ready s uniforms program
    → {limit : ℕ} {registers : List ℕ} {i k : ℕ} → i < count_of s → Here (program_of s) uniforms start trace limit registers i k → k < limit
    → {o : Operation} → o ≡ operation_of uniforms (count_of s) i ((program_of s).instruction i)
    → {left : List ℕ} {j r : ℕ} → left ≡ stored o i registers → j ≡ (effect_on o i registers).next → r ≡ difference left trace k
    → Turn (program_of s) uniforms start trace limit k r left o.ends j
turn s uniforms start trace ready {registers = registers} {i} below here h is e n d =
    let p = program_of s in
    let x = p.instruction i in
    let l = left_by uniforms (count_of s) i x registers is (ready.small i below) e in
    let t = ends_by uniforms (count_of s) i x registers is in
    record {
      leaves = left_is p uniforms start trace ready.safe.1 here h l d t;
      differs = differs p uniforms start trace ready.safe.1 here h l d t;
      ends = ended p uniforms start trace ready.safe.1 here h l d t;
      goes = λ w q. onward p uniforms start trace ready.safe.1 here h l d t w q _ (next_by uniforms (count_of s) i x registers is n);
    }
