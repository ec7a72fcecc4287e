-- The recorded trace: 64 numbers a step, and how the registers after a step are compared with them (02, Item 8).
use Rattle.std.specs.Prelude.{Bool, not, List, ℕ, ◌+◌, ◌*◌, ◌/◌, eqb, ltb, get_or, length, Option, None, Some}
use Rattle.bits.specs.Fields.{choose}
use Rattle.bits.specs.Sets.{lowest_from}

-- how many steps a trace records
abbrev pub recorded_steps : List ℕ → ℕ
recorded_steps trace = length trace / 64

-- the number that it has for register r after step k; steps are counted from 0
abbrev pub recorded : List ℕ → ℕ → ℕ → ℕ
recorded trace k r = get_or trace (64 * k + r) 0

-- register r holds something else after step k
abbrev pub unlike : List ℕ → List ℕ → ℕ → ℕ → Bool
unlike registers trace k r = not (eqb (get_or registers r 0) (recorded trace k r))

-- the lowest register that differs after step k; 64 where none does, or where the trace ends before that step, which then is not compared
unfoldable pub difference : List ℕ → List ℕ → ℕ → ℕ
difference registers trace k = choose (ltb k (recorded_steps trace)) (lowest_from (unlike registers trace k) 64 0) 64

-- the register of such a number, if there is one
abbrev pub below_64 : ℕ → Option ℕ
below_64 r = choose (ltb r 64) (Some r) None
