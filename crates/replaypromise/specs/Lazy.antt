-- Replays that the promise must exclude (01, What no lazy program may pass; 02, Item 8): one that always answers `end`, one that never compares, and one that compares register 0 only.
use Rattle.std.specs.Prelude.{◌≡◌, List, [], ℕ, ◌%◌, length}
use Rattle.bits.specs.Outcomes.{Outcome, gives}
use Rattle.safety.specs.declared.verdict.Finding.{Finding}
use Rattle.trace.specs.Trace.{recorded}
use Rattle.run.specs.declared.Stop.{Stop}
use Rattle.run.specs.declared.Stop.TheVariants.{Ended}
use Rattle.replay.specs.Replay.{Asked, asked}

-- where it runs, it says `end`
abbrev pub AlwaysEnds : (Asked → Outcome Finding Stop) → Type 0
AlwaysEnds answer = (a : Asked) (s : Stop) → answer a ≡ gives s → (n : ℕ) × (s ≡ Ended n)

-- what is asked with another trace
abbrev pub with_trace : Asked → List ℕ → Asked
with_trace a trace = asked a.bytes a.registers a.uniforms trace a.limit

-- the answer is that without a trace
abbrev pub NeverCompares : (Asked → Outcome Finding Stop) → Type 0
NeverCompares answer = (a : Asked) → length a.trace % 64 ≡ 0 → answer a ≡ answer (with_trace a [])

-- the answer is the same for two traces of a length that have the same numbers for register 0
abbrev pub ComparesRegister0 : (Asked → Outcome Finding Stop) → Type 0
ComparesRegister0 answer =
    (a : Asked) (trace : List ℕ) → length trace ≡ length a.trace → ((k : ℕ) → recorded trace k 0 ≡ recorded a.trace k 0)
    → answer a ≡ answer (with_trace a trace)
