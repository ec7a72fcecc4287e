-- What a replay answers and leaves (02, Item 8): its refusals in their order, all before step one, and the run.
use Rattle.std.specs.Prelude.{List, ℕ, ◌%◌, eqb, length, Result}
use Rattle.bits.specs.Outcomes.{Outcome, gives, refuses, require, ◌then◌, first, outcome}
use Rattle.record.specs.declared.instruction.Instruction.{Instruction}
use Rattle.container.specs.Container.{count_of}
use Rattle.safety.specs.declared.verdict.Finding.{Finding}
use Rattle.safety.specs.Program.{program_of}
use Rattle.safety.specs.Verdict.{Judgement, plain, verdict_of}
use Rattle.operations.specs.Replayable.{fault}
use Rattle.run.specs.declared.Stop.{Stop}
use Rattle.run.specs.Run.{at, run, steps_run}

-- what a replay is asked: the bytes of a container, the registers, the uniforms, the recorded trace and the step limit
pub record Asked : Type 0 where
  pub bytes : List ℕ
  pub registers : List ℕ
  pub uniforms : List ℕ
  pub trace : List ℕ
  pub limit : ℕ

abbrev pub asked : List ℕ → List ℕ → List ℕ → List ℕ → ℕ → Asked
asked s r u t l = record { bytes = s; registers = r; uniforms = u; trace = t; limit = l }

-- 32 where the length of the trace is not a multiple of 64; index 0
abbrev pub judge_trace : List ℕ → Judgement
judge_trace trace = require (eqb (length trace % 64) 0) (plain 32 0 0)

-- 30 or 31 for instruction i, which is x, where there are n uniforms
abbrev pub judge_fault : ℕ → ℕ → Instruction → Judgement
judge_fault n i x = require (eqb (fault n x) 0) (plain (fault n x) 0 i)

-- and for the lowest instruction that has one, reached or not
unfoldable pub judge_faults : List ℕ → List ℕ → Judgement
judge_faults s uniforms = first (λ i. judge_fault (length uniforms) i ((program_of s).instruction i)) (count_of s)

-- what is refused before step one: the check's own refusals come first, then 32, then 30 or 31
unfoldable pub judge_asked : Asked → Judgement
unfolding judge_faults
judge_asked a = verdict_of a.bytes then judge_trace a.trace then judge_faults a.bytes a.uniforms

-- the answer: a refusal, or what stopped the run
unfoldable pub replay_outcome : Asked → Outcome Finding Stop
unfolding judge_asked
replay_outcome a = judge_asked a then gives (run (program_of a.bytes) a.uniforms a.registers a.trace a.limit)

-- the registers afterwards, by the answer: as the last step run leaves them; on a refusal as they were
abbrev pub left_by : Asked → Outcome Finding Stop → List ℕ
left_by a (gives s) = (at (program_of a.bytes) a.uniforms a.registers (steps_run s)).registers
left_by a (refuses _) = a.registers

unfoldable pub replay_registers : Asked → List ℕ
unfolding replay_outcome
replay_registers a = left_by a (replay_outcome a)

-- the outcome that each answer of the code stands for
abbrev pub replayed_outcome : Result Stop Finding → Outcome Finding Stop
replayed_outcome = outcome
