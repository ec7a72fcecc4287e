-- The order of a replay's refusals. Assumes nothing.
use mathlib.Core.Path.{◌≡◌, sym, ◌∙◌}
use mathlib.Core.List.{List}
use Prim.Native.Nat.{ℕ, ◌%◌}
use lib.ListN.{length}
use borrow.Author.Tests.{eq-eqb, ne_eqb}
use Rattle.bits.specs.Outcomes.{Outcome, gives, refuses, passes, ◌then◌}
use Rattle.safety.specs.declared.verdict.Finding.{Finding}
use Rattle.safety.specs.Program.{program_of}
use Rattle.safety.specs.Verdict.{plain, verdict_of}
use Rattle.run.specs.declared.Stop.{Stop}
use Rattle.run.specs.Run.{at, run, steps_run}
use Rattle.replay.specs.Replay.{Asked, judge_faults, judge_asked, replay_outcome, replay_registers}

-- an answer and the registers that are left
pub record Answers (a : Asked) (o : Outcome Finding Stop) (left : List ℕ) : Type 0 where
  pub answer : o ≡ replay_outcome a
  pub registers : left ≡ replay_registers a

module _ (a : Asked) where
  refused_with : {f : Finding} → judge_asked a ≡ refuses f → Answers a (refuses f) a.registers
  unfolding replay_registers replay_outcome ◌then◌
  refused_with e = record { answer = rw e; registers = rw e }

  pub by_check : {f : Finding} → refuses f ≡ verdict_of a.bytes → Answers a (refuses f) a.registers
  unfolding judge_asked ◌then◌
  by_check e = refused_with (rw (sym e))

  module _ (accepted : verdict_of a.bytes ≡ passes) where
    pub by_length : (length a.trace % 64 ≡ 0 → ⊥) → {f : Finding} → f ≡ plain 32 0 0 → Answers a (refuses f) a.registers
    unfolding judge_asked ◌then◌
    by_length h e = refused_with (rw (accepted, ne_eqb (length a.trace % 64) 0 h, e))

    module _ (whole : length a.trace % 64 ≡ 0) where
      judged : judge_asked a ≡ judge_faults a.bytes a.uniforms
      unfolding judge_asked ◌then◌
      judged = rw (accepted, eq-eqb (length a.trace % 64) 0 whole)

      pub by_fault : {f : Finding} → refuses f ≡ judge_faults a.bytes a.uniforms → Answers a (refuses f) a.registers
      by_fault e = refused_with (judged ∙ sym e)

      pub ran : passes ≡ judge_faults a.bytes a.uniforms → {o : Stop} {left : List ℕ} → o ≡ run (program_of a.bytes) a.uniforms a.registers a.trace a.limit
          → left ≡ (at (program_of a.bytes) a.uniforms a.registers (steps_run o)).registers → Answers a (gives o) left
      unfolding replay_registers replay_outcome ◌then◌
      ran e {o} {left} p q =
          let j = judged ∙ sym e in
          record { answer = rw (j, sym p); registers = rw (j, sym p) q }
