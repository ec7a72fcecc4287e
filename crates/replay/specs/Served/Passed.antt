-- What the code knows once the check and the trace's length are past.
use Rattle.std.specs.Prelude.{◌≡◌, List, ℕ, ◌%◌, length}
use Rattle.bits.specs.Outcomes.{passes}
use Rattle.walks.specs.Walks.{AllSafe}
use Rattle.safety.specs.Program.{machine_of, WellFormed}
use Rattle.safety.specs.Verdict.{verdict_of}

pub record Passed (s trace : List ℕ) : Type 0 where
  pub accepted : verdict_of s ≡ passes
  pub safe : WellFormed s × AllSafe (machine_of s)
  pub whole : length trace % 64 ≡ 0
