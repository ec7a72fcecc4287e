-- The run: steps from instruction 0 on, until something stops it (02, Item 8).
use Rattle.std.specs.Prelude.{Bool, ltb, Option, None, Some}
use mathlib.Core.List.{List, [], ◌∷◌}
use Prim.Native.Nat.{ℕ, zero, suc}
use Rattle.bits.specs.Fields.{choose}
use Rattle.record.specs.Registers.{ends}
use Rattle.safety.specs.Program.{Program}
use Rattle.machine.specs.Steps.{State, after}
use Rattle.trace.specs.Trace.{difference}
use Rattle.run.specs.declared.Stop.{Stop}
use Rattle.run.specs.declared.Stop.TheVariants.{Differs, Ended, Limit}

-- what stops a run after step k, by the lowest register that differs then, 64 for none, and by whether its instruction has flow `end`
abbrev pub stopped : ℕ → ℕ → Bool → Option Stop
stopped k r end = choose (ltb r 64) (Some (Differs k r)) (choose end (Some (Ended (suc k))) None)

-- the first that stops it
abbrev pub or_later : Option Stop → Stop → Stop
or_later (Some s) later = s
or_later None later = later

-- how many steps were run
abbrev pub steps_run : Stop → ℕ
steps_run (Differs k r) = suc k
steps_run (Ended n) = n
steps_run (Limit n) = n

module _ (p : Program) (uniforms start : List ℕ) where
  -- the machine before step k; it begins with the start registers, at instruction 0
  unfoldable pub at : ℕ → State
  at zero = record { registers = start; index = 0 }
  at (suc k) = after p uniforms (at k)

  -- the indexes of the first k instructions run, the last first
  unfoldable pub visited : ℕ → List ℕ
  unfolding at
  visited zero = []
  visited (suc k) = (at k).index ∷ visited k

  module _ (trace : List ℕ) where
    -- step k stops the run where the registers after it differ from the trace, else where its instruction has flow `end`: of the flows only that
    -- one acts
    unfoldable pub stop : ℕ → Option Stop
    unfolding at
    stop k = stopped k (difference (at (suc k)).registers trace k) (ends (p.instruction (at k).index))

    -- the run from step k on, with n steps left to the limit
    unfoldable pub run_from : ℕ → ℕ → Stop
    unfolding stop
    run_from k zero = Limit k
    run_from k (suc n) = or_later (stop k) (run_from (suc k) n)

    -- the whole run
    unfoldable pub run : ℕ → Stop
    unfolding run_from
    run limit = run_from 0 limit
