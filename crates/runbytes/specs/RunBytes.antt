-- What a replay is asked, in bytes (02, Item 8): a step limit, registers, uniforms, a recorded trace and a container. All numbers but the
-- container's own have 32 bits, the lowest byte first.
--   byte 0   0, or 1 where the registers after each step are wanted too
--        4   the step limit
--        8   how many uniforms there are, at most 256
--       12   how many numbers the trace has, at most 262144, which is 4096 steps
--       16   the 64 start registers
--      272   the uniforms, after them the trace, and after that the container, to the end
use Rattle.std.specs.Prelude.{◌&&◌, List, [], ◌∷◌, ◌++◌, ℕ, zero, suc, ◌+◌, ◌*◌, eqb, leb, length, drop, Result}
use Rattle.bits.specs.Outcomes.{Outcome, gives, require, ◌then◌, outcome}
use Rattle.container.specs.Container.{number}
use Rattle.replay.specs.Replay.{Asked, asked}
use Rattle.runbytes.specs.declared.Front.{Front}
use Rattle.runbytes.specs.declared.Fault.{Fault}
use Rattle.runbytes.specs.declared.Fault.TheVariants.{Short, Kind, Counts, Cut}

-- where the start registers stand, and where the uniforms do
abbrev pub registers_start : ℕ
registers_start = 16

abbrev pub uniforms_start : ℕ
uniforms_start = 272

-- the most uniforms, and the most numbers of a trace
abbrev pub most_uniforms : ℕ
most_uniforms = 256

abbrev pub most_recorded : ℕ
most_recorded = 262144

-- the number that four bytes give, and n numbers one after the other
abbrev pub number_at : List ℕ → ℕ → ℕ
number_at s start = number s start 4

unfoldable pub numbers : List ℕ → ℕ → ℕ → List ℕ
numbers s start zero = []
numbers s start (suc n) = numbers s start n ++ (number_at s (start + 4 * n) ∷ [])

-- what stands before the start registers
abbrev pub front_in : List ℕ → Front
front_in s = record { rows = eqb (number_at s 0) 1; limit = number_at s 4; uniforms = number_at s 8; recorded = number_at s 12 }

-- where the trace begins, and where the container does
abbrev pub trace_start : Front → ℕ
trace_start f = uniforms_start + 4 * f.uniforms

abbrev pub container_start : Front → ℕ
container_start f = trace_start f + 4 * f.recorded

-- the parts
abbrev pub registers_in : List ℕ → List ℕ
registers_in s = numbers s registers_start 64

abbrev pub uniforms_in : List ℕ → List ℕ
uniforms_in s = numbers s uniforms_start (front_in s).uniforms

abbrev pub trace_in : List ℕ → List ℕ
trace_in s = numbers s (trace_start (front_in s)) (front_in s).recorded

abbrev pub container_in : List ℕ → List ℕ
container_in s = drop (container_start (front_in s)) s

-- what a replay is asked
abbrev pub asked_in : List ℕ → Asked
asked_in s = asked (container_in s) (registers_in s) (uniforms_in s) (trace_in s) (front_in s).limit

-- whether the parts are there: first that there is room for the start registers, then what the first number and the counts may be, then
-- that there is room for what they count
abbrev pub split_outcome : List ℕ → Outcome Fault Front
split_outcome s =
    require (leb uniforms_start (length s)) Short
    then require (leb (number_at s 0) 1) Kind
    then require (leb (front_in s).uniforms most_uniforms && leb (front_in s).recorded most_recorded) Counts
    then require (leb (container_start (front_in s)) (length s)) Cut
    then gives (front_in s)

-- the outcome that each answer of the code stands for
abbrev pub parted_outcome : Result Front Fault → Outcome Fault Front
parted_outcome = outcome
