-- Demand 3 of version 1, as it was before there were halves: what a check that accepts owes, and when it owes to accept; over all bytes that
-- carry version 1 and all walks. "Held" is said in two ways, which agree
-- (`Walks.HoldsIfSupplied`): a register that is read was supplied by the entry set or an earlier step and not released since; one that an
-- annotation names holds as the steps before leave it.
use Rattle.std.specs.Prelude.{◌≡◌, List, ℕ, T}
use Rattle.std.proofs.Math.Pow.{are_bytes}
use Rattle.bits.specs.Outcomes.{Outcome, passes}
use Rattle.container.specs.Container.{version_of}
use Rattle.walks.specs.Walks.{AllSafe, AllReached, Exact}
use Rattle.version1.specs.Program.{program_of, machine_of, WellFormed, NeverRunsOff}
use Rattle.version1.specs.Container.{version}

-- of the bytes s, where `accepts` says that the check accepts them
pub record Demand3At (s : List ℕ) (accepts : Type 0) : Type 0 where
  -- what is accepted is a well-formed container, and at each step of every walk: each register that is read was supplied, by the entry set
  -- or by a full write at an earlier step of that walk, and no step since then released it; each register that the annotation names is
  -- defined on arriving; and no successor is outside the program
  pub sound : accepts → WellFormed s × AllSafe (machine_of s)
  -- a well-formed container is accepted where all that holds of every walk, every instruction lies on a walk, and for each instruction and
  -- each register from 0 to 63 the annotation names it exactly when it is defined on every walk that arrives there
  pub complete : WellFormed s → AllSafe (machine_of s) → AllReached (machine_of s) → Exact (machine_of s) → accepts
  -- an accepted program never runs off: where a walk arrives is `end`, or it has a successor and all are inside
  pub goes_on : accepts → NeverRunsOff (program_of s)

-- of a check: so for all bytes that carry version 1
abbrev pub Demand3 : {F : Type 0} → (List ℕ → Outcome F (Unit {0})) → Type 0
Demand3 check = (s : List ℕ) → T (are_bytes s) → version_of s ≡ version → Demand3At s (check s ≡ passes)
