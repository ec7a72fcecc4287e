-- What the replayer reads and what it writes of it (02, Item 8): what a replay is asked, in bytes, and the line of its answer; where each
-- step is wanted too, before that a line for each step run with the 64 registers after it.
use Rattle.std.specs.Prelude.{◌≡◌, List, [], ◌∷◌, ◌++◌, ℕ, ◌+◌, ◌*◌, length, Ok}
use Rattle.bits.specs.Fields.{choose}
use Rattle.bits.specs.Outcomes.{Outcome, gives, refuses}
use Rattle.rows.specs.Names.{ascii}
use Rattle.container.specs.Formats.{longest_container}
use Rattle.safety.specs.declared.verdict.Finding.{Finding}
use Rattle.safety.specs.Program.{program_of}
use Rattle.run.specs.declared.Stop.{Stop}
use Rattle.run.specs.Run.{at, steps_run}
use Rattle.replay.specs.Replay.{replay_outcome, replay_registers}
use Rattle.runbytes.specs.declared.Front.{Front}
use Rattle.runbytes.specs.declared.Fault.{Fault}
use Rattle.runbytes.specs.declared.Fault.TheVariants.{Short, Kind, Counts, Cut}
use Rattle.runbytes.specs.RunBytes.{uniforms_start, most_uniforms, most_recorded, front_in, registers_in, uniforms_in, trace_in, container_in, asked_in, split_outcome}
use Rattle.text.specs.Text.{line_feed}
use Rattle.replaytext.specs.ReplayText.{answer_line, register_row}
use Rattle.input.specs.Input.{Input}

-- the most that is read: the longest that can stand before a container, and one byte more than the longest container
abbrev pub most_read : ℕ
most_read = uniforms_start + 4 * most_uniforms + 4 * most_recorded + (longest_container + 1)

-- the answer, and its line
abbrev pub answer_in : List ℕ → Outcome Finding Stop
answer_in s = replay_outcome (asked_in s)

unfoldable pub answer_text : List ℕ → List ℕ
answer_text s = answer_line (answer_in s) (replay_registers (asked_in s)) (trace_in s)

-- how many steps were run: none where the replay is refused
abbrev pub steps_of : Outcome Finding Stop → ℕ
steps_of (gives stop) = steps_run stop
steps_of (refuses _) = 0

-- how many lines of registers are wanted: one for each step run, or none; and the line of the registers after j steps
abbrev pub row_count : List ℕ → ℕ
row_count s = choose (front_in s).rows (steps_of (answer_in s)) 0

unfoldable pub row_text : List ℕ → ℕ → List ℕ
row_text s j = register_row (at (program_of (container_in s)) (uniforms_in s) (registers_in s) j).registers

-- what is told of an input whose parts are not there
abbrev pub fault_line : Fault → List ℕ
fault_line Short = ascii "replayer: input shorter than 272 bytes" ++ (line_feed ∷ [])
fault_line Kind = ascii "replayer: first number is not 0 or 1" ++ (line_feed ∷ [])
fault_line Counts = ascii "replayer: a count is too large" ++ (line_feed ∷ [])
fault_line Cut = ascii "replayer: input shorter than counted" ++ (line_feed ∷ [])

-- the bytes are all that were read, and what is asked is there
pub record Read (input : Input) (s : List ℕ) (f : Front) : Type 0 where
  pub all : input ≡ Ok (length s)
  pub parts : gives f ≡ split_outcome s

-- these are its container, uniforms and trace
pub record Loaded (s c u t : List ℕ) : Type 0 where
  pub container : c ≡ container_in s
  pub uniforms : u ≡ uniforms_in s
  pub trace : t ≡ trace_in s
