-- The lowest byte of a replay's answer tells which it is, and a finding has room. Assumes nothing.
use mathlib.Core.Path.{◌≡◌, refl}
use mathlib.Core.Logic.{◌↔◌, ⊎_elim}
use Prim.Native.Nat.{ℕ, ◌+◌, ◌*◌, ◌%◌, ◌^◌, ◌<◌}
use native.Mathlib.Omega.{arith}
use lib.ListN.{get_or}
use Rattle.bits.specs.Outcomes.{Outcome, gives, refuses}
use Rattle.bits.proofs.OutcomeLaws.{never}
use Rattle.container.proofs.OpeningLaws.{count_two}
use Rattle.safety.specs.declared.verdict.Finding.{Finding}
use Rattle.codes.specs.Codes.{packed, half_number}
use Rattle.codes.proofs.CodeLaws.{Roomy, roomy}
use Rattle.run.specs.declared.Stop.{Stop}
use Rattle.run.specs.declared.Stop.TheVariants.{Differs, Ended, Limit}
use Rattle.replay.specs.Replay.{Asked, replay_outcome}
use Rattle.replay.proofs.NumberedLaws.{all_refusals, replay_numbers}
use Rattle.replaycode.specs.ReplayCode.{replay_code, LowByteTells}

-- a refusal's number is one of 1 to 253
pub numbered : (a : Asked) (f : Finding) → replay_outcome a ≡ refuses f → (0 < f.number) × (f.number < 254)
numbered a f e =
    ⊎_elim (λ r. ⊎_elim (λ b. (omega (arith, b.0), omega (arith, b.1))) (λ r. ⊎_elim (λ b. (omega (arith, b.0), omega (arith, b.1))) (λ b. (omega (arith, b.0), omega (arith, b.1))) r) r)
    (λ b. (omega (arith, b.0), omega (arith, b.1))) (replay_numbers a f e)

-- it is the lowest byte of the finding
low_byte : (f : Finding) → f.number < 254 → packed f % 2 ^ 8 ≡ f.number
low_byte f l = let h = half_number f.half in let q : packed f ≡ f.number + 2 ^ 8 * (f.place + 2 ^ 8 * f.index + 2 ^ 24 * f.register + 2 ^ 32 * half_number f.half) = omega arith in rw q (omega arith)

-- which answer it is
module _ (a : Asked) where
  ended_by : (o : Outcome Finding Stop) → replay_outcome a ≡ o → (replay_code o % 2 ^ 8 ≡ 0) ↔ ((n : ℕ) × (o ≡ gives (Ended n)))
  ended_by (gives (Ended n)) e = (λ h. (n, refl), λ h. omega arith)
  ended_by (gives (Limit n)) e = (λ h. absurd (omega arith), λ h. absurd (let z : ◌≡◌ {A = ℕ} 0 1 = cc h.1 in omega arith))
  ended_by (gives (Differs k r)) e = (λ h. absurd (omega arith), λ h. absurd (let z : ◌≡◌ {A = ℕ} 0 1 = cc h.1 in omega arith))
  ended_by (refuses f) e = let n = numbered a f e in (λ h. absurd (omega (arith, low_byte f n.1, n.0)), λ h. never h.1)

  limited_by : (o : Outcome Finding Stop) → replay_outcome a ≡ o → (replay_code o % 2 ^ 8 ≡ 254) ↔ ((n : ℕ) × (o ≡ gives (Limit n)))
  limited_by (gives (Limit n)) e = (λ h. (n, refl), λ h. omega arith)
  limited_by (gives (Ended n)) e = (λ h. absurd (omega arith), λ h. absurd (let z : ◌≡◌ {A = ℕ} 0 1 = cc h.1 in omega arith))
  limited_by (gives (Differs k r)) e = (λ h. absurd (omega arith), λ h. absurd (let z : ◌≡◌ {A = ℕ} 0 1 = cc h.1 in omega arith))
  limited_by (refuses f) e = let n = numbered a f e in (λ h. absurd (omega (arith, low_byte f n.1, n.1)), λ h. never h.1)

  differed_by : (o : Outcome Finding Stop) → replay_outcome a ≡ o → (replay_code o % 2 ^ 8 ≡ 255) ↔ ((k : ℕ) × (r : ℕ) × (o ≡ gives (Differs k r)))
  differed_by (gives (Differs k r)) e = (λ h. (k, r, refl), λ h. omega arith)
  differed_by (gives (Ended n)) e = (λ h. absurd (omega arith), λ h. absurd (let z : ◌≡◌ {A = ℕ} 0 1 = cc h.2 in omega arith))
  differed_by (gives (Limit n)) e = (λ h. absurd (omega arith), λ h. absurd (let z : ◌≡◌ {A = ℕ} 0 1 = cc h.2 in omega arith))
  differed_by (refuses f) e = let n = numbered a f e in (λ h. absurd (omega (arith, low_byte f n.1, n.1)), λ h. never h.2)

pub low_byte_tells : LowByteTells
low_byte_tells = record {
  of_end = λ a. ended_by a (replay_outcome a) refl;
  of_limit = λ a. limited_by a (replay_outcome a) refl;
  of_difference = λ a. differed_by a (replay_outcome a) refl;
}

-- a finding of a replay has room
pub replay_roomy : (a : Asked) → ((k : ℕ) → get_or a.bytes k 0 < 256) → {f : Finding} → replay_outcome a ≡ refuses f → Roomy f
replay_roomy a h {f} e =
    all_refusals a Roomy (λ g q. roomy a.bytes h q) (record { index = omega arith; register = omega arith })
    (λ n i b l. record { index = omega (arith, l, count_two a.bytes, h 6, h 7); register = omega arith }) f e
