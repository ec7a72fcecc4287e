-- The numbers, indexes and registers that refusals of a replay have: those of the check, and 30 to 32. Assumes nothing.
use mathlib.Core.Bool.{Bool, true, false}
use mathlib.Core.Logic.{◌⊎◌, inl, inr}
use Prim.Native.Nat.{ℕ, ◌%◌, ◌<◌}
use native.Mathlib.Omega.{arith}
use lib.Dec.{eqb, lit≤}
use lib.ListN.{length}
use Rattle.bits.specs.Fields.{choose}
use Rattle.bits.specs.Outcomes.{gives, require}
use Rattle.bits.proofs.OutcomeLaws.{Refusals, Between, of_gives, of_refuses, of_require, of_then, weaker}
use Rattle.bits.proofs.FirstLaws.{first_refused}
use Rattle.record.specs.declared.instruction.Instruction.{Instruction}
use Rattle.container.specs.Container.{count_of}
use Rattle.safety.specs.declared.verdict.Finding.{Finding}
use Rattle.safety.specs.Program.{program_of}
use Rattle.safety.specs.Verdict.{plain, verdict_of}
use Rattle.safety.proofs.NumberedLaws.{FromTheRules, verdict_numbers}
use Rattle.operations.specs.Replayable.{supplied, all_three, replayable, fault}
use Rattle.run.specs.Run.{run}
use Rattle.replay.specs.Replay.{Asked, judge_trace, judge_fault, judge_faults, judge_asked, replay_outcome}
use Rattle.replay.proofs.FaultLaws.{each_fault}

-- what holds of the check's refusals, of 32, and of 30 and 31 at one of the instructions, holds of every refusal of a replay
module _ (a : Asked) (P : Finding → Type 0) (of_check : Refusals P (verdict_of a.bytes)) (of_length : P (plain 32 0 0))
    (of_fault : (n i : ℕ) → Between 30 31 n → i < count_of a.bytes → P (plain n 0 i)) where
  faulted : (n i : ℕ) (x : Instruction) → i < count_of a.bytes → Refusals P (judge_fault n i x)
  unfolding fault
  faulted n i x l = go (replayable x) (all_three (supplied n) x)
    where
      go : (t u : Bool) → Refusals P (require (eqb (choose t (choose u 0 31) 30) 0) (plain (choose t (choose u 0 31) 30) 0 i))
      go true true = of_gives P tt
      go true false = of_refuses P (plain 31 0 i) (of_fault 31 i (lit≤ tt, lit≤ tt) l)
      go false u = of_refuses P (plain 30 0 i) (of_fault 30 i (lit≤ tt, lit≤ tt) l)

  faults : Refusals P (judge_faults a.bytes a.uniforms)
  unfolding judge_faults
  faults f e =
      let r = first_refused (each_fault a.bytes a.uniforms) (count_of a.bytes) e in
      faulted (length a.uniforms) r.0 ((program_of a.bytes).instruction r.0) r.1 f r.2

  pub all_refusals : Refusals P (replay_outcome a)
  unfolding replay_outcome judge_asked
  all_refusals =
      of_then P (judge_asked a) (gives (run (program_of a.bytes) a.uniforms a.registers a.trace a.limit))
      (of_then P (verdict_of a.bytes) _ of_check
      (of_then P (judge_trace a.trace) (judge_faults a.bytes a.uniforms) (of_require P (eqb (length a.trace % 64) 0) (plain 32 0 0) of_length) faults))
      (of_gives P _)

-- the numbers
abbrev pub FromTheReplay : ℕ → Type 0
FromTheReplay n = FromTheRules n ⊎ Between 30 32 n

pub replay_numbers : (a : Asked) → Refusals (λ (f : Finding). FromTheReplay f.number) (replay_outcome a)
replay_numbers a =
    all_refusals a (λ (f : Finding). FromTheReplay f.number) (weaker (λ (f : Finding) (n : FromTheRules f.number). inl n) (verdict_numbers a.bytes))
    (inr (lit≤ tt, lit≤ tt)) (λ n i b l. inr (b.0, omega (arith, b.1)))
