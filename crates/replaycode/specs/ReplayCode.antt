-- The answer of a replay as a single number for C, which is our own, and what the header promises of it.
use Rattle.std.specs.Prelude.{◌≡◌, ◌↔◌, ℕ, suc, ◌+◌, ◌*◌, ◌%◌, ◌^◌}
use Rattle.bits.specs.Outcomes.{Outcome, gives, refuses}
use Rattle.safety.specs.declared.verdict.Finding.{Finding}
use Rattle.codes.specs.Codes.{packed}
use Rattle.run.specs.declared.Stop.{Stop}
use Rattle.run.specs.declared.Stop.TheVariants.{Differs, Ended, Limit}
use Rattle.replay.specs.Replay.{Asked, replay_outcome}

-- what stopped a run: 0 for `end`, 254 for the limit, 255 for a difference, with its register at bit 8; and at bit 16 how many steps were run
abbrev pub stop_code : Stop → ℕ
stop_code (Ended n) = 2 ^ 16 * n
stop_code (Limit n) = 254 + 2 ^ 16 * n
stop_code (Differs k r) = 255 + 2 ^ 8 * r + 2 ^ 16 * suc k

-- that, or the finding
abbrev pub replay_code : Outcome Finding Stop → ℕ
replay_code (gives s) = stop_code s
replay_code (refuses f) = packed f

-- the lowest byte tells which it is: no refusal has the number 0, 254 or 255
pub record LowByteTells : Type 0 where
  pub of_end : (a : Asked) → (replay_code (replay_outcome a) % 2 ^ 8 ≡ 0) ↔ ((n : ℕ) × (replay_outcome a ≡ gives (Ended n)))
  pub of_limit : (a : Asked) → (replay_code (replay_outcome a) % 2 ^ 8 ≡ 254) ↔ ((n : ℕ) × (replay_outcome a ≡ gives (Limit n)))
  pub of_difference : (a : Asked)
      → (replay_code (replay_outcome a) % 2 ^ 8 ≡ 255) ↔ ((k : ℕ) × (r : ℕ) × (replay_outcome a ≡ gives (Differs k r)))
