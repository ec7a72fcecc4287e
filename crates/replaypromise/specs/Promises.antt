-- What a replay owes (02, Item 8), of any replay: a way to answer what is asked, and the registers that it leaves.
use Rattle.std.specs.Prelude.{◌≡◌, true, false, List, ◌≢◌, ℕ, suc, ◌%◌, ◌≤◌, ◌<◌, T, get_or, length}
use Rattle.std.proofs.Math.Pow.{are_bytes}
use Rattle.bits.specs.Outcomes.{Outcome, gives, refuses, passes}
use Rattle.bits.specs.Sets.{Has}
use Rattle.record.specs.declared.instruction.Instruction.{Instruction}
use Rattle.record.specs.Registers.{reads, ends}
use Rattle.container.specs.Container.{count_of}
use Rattle.safety.specs.declared.verdict.Finding.{Finding}
use Rattle.safety.specs.Program.{Fact, program_of, machine_of}
use Rattle.safety.specs.Verdict.{plain, verdict_of}
use Rattle.walks.specs.Walks.{Walk, Holds}
use Rattle.operations.specs.Replayable.{supplied, all_three, replayable, fault}
use Rattle.machine.specs.Steps.{State, written, index_after}
use Rattle.trace.specs.Trace.{recorded_steps, recorded}
use Rattle.run.specs.declared.Stop.{Stop}
use Rattle.run.specs.declared.Stop.TheVariants.{Differs, Ended, Limit}
use Rattle.run.specs.Run.{at, visited, steps_run}
use Rattle.replay.specs.Replay.{Asked}

-- what is asked: bytes, and 64 registers
pub record Asks (a : Asked) : Type 0 where
  pub bytes : T (are_bytes a.bytes)
  pub registers : length a.registers ≡ 64

-- instruction i of the program, the machine before step k, the instruction that step k runs, and the indexes of the first k instructions run
abbrev pub instruction : Asked → ℕ → Instruction
instruction a i = (program_of a.bytes).instruction i

abbrev pub state : Asked → ℕ → State
state a k = at (program_of a.bytes) a.uniforms a.registers k

abbrev pub run_at : Asked → ℕ → Instruction
run_at a k = instruction a (state a k).index

abbrev pub indexes : Asked → ℕ → List ℕ
indexes a k = visited (program_of a.bytes) a.uniforms a.registers k

-- the first n instructions can be replayed, and the uniforms that they name are there
abbrev pub Clean : Asked → ℕ → Type 0
Clean a n = (i : ℕ) → i < n → fault (length a.uniforms) (instruction a i) ≡ 0

-- why a replay is refused, each number where all that comes before it in the order is past
pub data Reason (a : Asked) : Finding → Type 0 where
  -- the check's own refusals come first
  by_check : (f : Finding) → verdict_of a.bytes ≡ refuses f → Reason a f
  -- 32: the length of the trace is not a multiple of 64
  by_length : verdict_of a.bytes ≡ passes → length a.trace % 64 ≢ 0 → Reason a (plain 32 0 0)
  -- 30 for the lowest instruction at fault, which the machine cannot run
  by_row : (i : ℕ) → verdict_of a.bytes ≡ passes → length a.trace % 64 ≡ 0 → i < count_of a.bytes → Clean a i
      → replayable (instruction a i) ≡ false → Reason a (plain 30 0 i)
  -- 31 for it where the machine can run it, and a uniform is past the list
  by_uniform : (i : ℕ) → verdict_of a.bytes ≡ passes → length a.trace % 64 ≡ 0 → i < count_of a.bytes → Clean a i
      → replayable (instruction a i) ≡ true → all_three (supplied (length a.uniforms)) (instruction a i) ≡ false → Reason a (plain 31 0 i)

-- an instruction reads the registers that the walk's rules say and no other: what it writes and where it goes on are the same whatever the others hold
abbrev pub ReadsOnly : List ℕ → ℕ → ℕ → Instruction → Type 0
ReadsOnly uniforms n i x =
    (before other : List ℕ) → ((r : ℕ) → Has (reads x) r → get_or before r 0 ≡ get_or other r 0)
    → (written uniforms x before ≡ written uniforms x other) × (index_after uniforms n i x before ≡ index_after uniforms n i x other)

-- register r is as recorded after step k
abbrev pub Alike : Asked → ℕ → ℕ → Type 0
Alike a k r = get_or (state a (suc k)).registers r 0 ≡ recorded a.trace k r

-- what stopped the run is told as it is
abbrev pub Told : Asked → Stop → Type 0
-- at step k a register is not as recorded, and r is the lowest
Told a (Differs k r) = (k < recorded_steps a.trace) × (r < 64) × (¬ Alike a k r) × ((q : ℕ) → q < r → Alike a k q)
-- the last step came to `end`
Told a (Ended n) = (k : ℕ) × (n ≡ suc k) × (ends (run_at a k) ≡ true)
-- as many steps as the limit, and none of them came to `end`
Told a (Limit n) = (n ≡ a.limit) × ((k : ℕ) → k < n → ends (run_at a k) ≡ false)

-- the answer names a difference at step k
abbrev pub NamesStep : Stop → ℕ → Type 0
NamesStep (Differs j r) k = j ≡ k
NamesStep (Ended n) k = ⊥
NamesStep (Limit n) k = ⊥

-- a replay that ran, and was stopped by s, leaving some registers
pub record Runs (a : Asked) (s : Stop) (left : List ℕ) : Type 0 where
  -- nothing was to be refused
  pub accepted : verdict_of a.bytes ≡ passes
  pub whole : length a.trace % 64 ≡ 0
  pub clean : Clean a (count_of a.bytes)
  -- the limit is kept, and the registers are those that the last step left
  pub within : steps_run s ≤ a.limit
  pub registers : left ≡ (state a (steps_run s)).registers
  -- the instructions run, if any, form a walk
  pub walk : (k : ℕ) → steps_run s ≡ suc k → Walk (machine_of a.bytes) (indexes a (suc k))
  -- no step reads a half that isn't held on it: what the walk's rules say that it reads is held, and it reads nothing else
  pub held : (k : ℕ) → k < steps_run s → (g : Fact) → (machine_of a.bytes).needs (state a k).index g → Holds (machine_of a.bytes) (indexes a (suc k)) g
  pub reads_only : (k : ℕ) → k < steps_run s → ReadsOnly a.uniforms (count_of a.bytes) (state a k).index (run_at a k)
  -- after each step run that the trace has, except the one that a difference names, all 64 registers are as recorded
  pub alike : (k : ℕ) → k < steps_run s → k < recorded_steps a.trace → (¬ NamesStep s k) → (r : ℕ) → r < 64 → Alike a k r
  -- no step before the last came to `end`, and what stopped the run is told as it is
  pub onward : (k : ℕ) → suc k < steps_run s → ends (run_at a k) ≡ false
  pub told : Told a s

-- a replay: its answers, and the registers that it leaves
pub record Replays (answer : Asked → Outcome Finding Stop) (left : Asked → List ℕ) : Type 0 where
  -- a refusal is one of the rules' and in their order, before step one: no register is touched
  pub refused : (a : Asked) → Asks a → (f : Finding) → answer a ≡ refuses f → Reason a f × (left a ≡ a.registers)
  pub ran : (a : Asked) → Asks a → (s : Stop) → answer a ≡ gives s → Runs a s (left a)
