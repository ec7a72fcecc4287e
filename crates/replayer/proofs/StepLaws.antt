-- The steps of a run: no more than the limit, and the first j of them are those of the run with limit j and nothing to compare with.
-- Assumes nothing.
use Rattle.std.specs.Prelude.{Option, None, Some}
use mathlib.Core.Path.{◌≡◌, refl, sym, ap, ◌∙◌}
use mathlib.Core.Bool.{Bool, true, false}
use mathlib.Core.List.{List, []}
use Prim.Native.Nat.{ℕ, zero, suc, ◌+◌, ◌<◌, ◌≤◌}
use native.Mathlib.Omega.{arith}
use lib.Dec.{ltb}
use borrow.Author.Tests.{le-ltb}
use Rattle.bits.specs.Fields.{choose}
use Rattle.bits.specs.Outcomes.{gives, refuses, passes, ◌then◌}
use Rattle.bits.proofs.OutcomeLaws.{then_gives}
use Rattle.record.specs.Registers.{ends}
use Rattle.safety.specs.Program.{Program, program_of}
use Rattle.safety.specs.Verdict.{Judgement, verdict_of}
use Rattle.trace.specs.Trace.{difference}
use Rattle.run.specs.declared.Stop.{Stop}
use Rattle.run.specs.declared.Stop.TheVariants.{Differs, Ended, Limit}
use Rattle.run.specs.Run.{or_later, steps_run, at, stop, run_from, run}
use Rattle.replay.specs.Replay.{Asked, asked, judge_trace, judge_asked, replay_outcome, replay_registers}
use Rattle.replayer.specs.Replaying.{steps_of}

some_none : {A X : Type 0} {x : A} → Some x ≡ None → X
some_none e = let z : ◌≡◌ {A = ℕ} 0 1 = cc in absurd (omega arith)

-- whatever stops a run after step k, k + 1 steps were run
stop_counts : (k r : ℕ) (difference_there end : Bool) {s : Stop} → choose difference_there (Some (Differs k r)) (choose end (Some (Ended (suc k))) None) ≡ Some s → steps_run s ≡ suc k
stop_counts k r true end e = ap steps_run (the_one e)
  where
    the_one : {x y : Stop} → Some x ≡ Some y → y ≡ x
    the_one q = cc
stop_counts k r false true e = ap steps_run (the_one e)
  where
    the_one : {x y : Stop} → Some x ≡ Some y → y ≡ x
    the_one q = cc
stop_counts k r false false e = some_none (sym e)

-- where nothing stops it, the instruction does not end the program
not_ended : (x y : Stop) (difference_there end : Bool) → choose difference_there (Some x) (choose end (Some y) None) ≡ None → end ≡ false
not_ended x y true end e = some_none e
not_ended x y false true e = some_none e
not_ended x y false false e = refl

module _ (p : Program) (uniforms start trace : List ℕ) where
  ended : ℕ → Bool
  ended k = ends (p.instruction (at p uniforms start k).index)

  -- with nothing to compare with, `end` alone stops a step
  alone : (k : ℕ) → stop p uniforms start [] k ≡ choose (ended k) (Some (Ended (suc k))) None
  unfolding stop difference ended
  alone k = rw (le-ltb k 0 (omega arith))

  onward : (k : ℕ) → stop p uniforms start trace k ≡ None → stop p uniforms start [] k ≡ None
  unfolding stop ended
  onward k e = alone k ∙ rw (not_ended _ _ (ltb (difference (at p uniforms start (suc k)).registers trace k) 64) (ended k) e)

  stops : (k : ℕ) {s : Stop} → stop p uniforms start trace k ≡ Some s → steps_run s ≡ suc k
  unfolding stop ended
  stops k e = stop_counts k _ (ltb (difference (at p uniforms start (suc k)).registers trace k) 64) (ended k) e

  few : (n k : ℕ) → steps_run (run_from p uniforms start trace k n) ≤ k + n
  unfolding run_from
  few zero k = omega arith
  few (suc n) k = go (few n (suc k)) (stop p uniforms start trace k) refl
    where
      go : steps_run (run_from p uniforms start trace (suc k) n) ≤ suc k + n → (o : Option Stop) → stop p uniforms start trace k ≡ o → steps_run (or_later (stop p uniforms start trace k) (run_from p uniforms start trace (suc k) n)) ≤ k + suc n
      go l (Some s) e = rw e (omega (arith, stops k e))
      go l None e = rw e (omega arith)

  -- one step, with nothing to compare with
  one : (k : ℕ) → steps_run (run_from p uniforms start [] k 1) ≡ suc k
  unfolding run_from
  one k = ap (λ (o : Option Stop). steps_run (or_later o (Limit (suc k)))) (alone k) ∙ go (ended k)
    where
      go : (t : Bool) → steps_run (or_later (choose t (Some (Ended (suc k))) None) (Limit (suc k))) ≡ suc k
      go true = refl
      go false = refl

  counted : (m n k : ℕ) → k + m ≤ steps_run (run_from p uniforms start trace k n) → steps_run (run_from p uniforms start [] k m) ≡ k + m
  unfolding run_from
  counted zero n k h = omega arith
  counted (suc m) zero k h = absurd (omega arith)
  counted (suc m) (suc n) k h = go (λ l. counted m n (suc k) l) (stop p uniforms start trace k) refl
    where
      go : (suc k + m ≤ steps_run (run_from p uniforms start trace (suc k) n) → steps_run (run_from p uniforms start [] (suc k) m) ≡ suc k + m) → (o : Option Stop) → stop p uniforms start trace k ≡ o → steps_run (run_from p uniforms start [] k (suc m)) ≡ k + suc m
      go f (Some s) e =
          let l : k + suc m ≤ steps_run s = rw e at h in
          let z : m ≡ 0 = omega (arith, stops k e) in
          rw z (one k ∙ omega arith)
      go f None e =
          let l : k + suc m ≤ steps_run (run_from p uniforms start trace (suc k) n) = rw e at h in
          rw (onward k e) (f (omega arith) ∙ omega arith)

-- no more steps are run than the limit
pub few_steps : (a : Asked) → steps_of (replay_outcome a) ≤ a.limit
unfolding replay_outcome run ◌then◌
few_steps a = go (judge_asked a) refl
  where
    go : (j : Judgement) → judge_asked a ≡ j → steps_of (replay_outcome a) ≤ a.limit
    go (gives _) e = rw e (omega (arith, few (program_of a.bytes) a.uniforms a.registers a.trace a.limit 0))
    go (refuses _) e = rw e (omega arith)

module _ (a : Asked) (j : ℕ) where
  abbrev alone_asked : Asked
  alone_asked = asked a.bytes a.registers a.uniforms [] j

  judged : judge_asked a ≡ passes → judge_asked alone_asked ≡ passes
  unfolding judge_asked ◌then◌
  judged e =
      let v = then_gives (verdict_of a.bytes) _ tt e in
      let t = then_gives (judge_trace a.trace) _ tt v.1 in
      rw (v.0, t.1)

  -- the registers that it leaves are those after j steps
  pub left_alone : 0 < j → j ≤ steps_of (replay_outcome a) → replay_registers alone_asked ≡ (at (program_of a.bytes) a.uniforms a.registers j).registers
  unfolding replay_registers replay_outcome run ◌then◌
  left_alone z h = go (judge_asked a) refl
    where
      go : (t : Judgement) → judge_asked a ≡ t → replay_registers alone_asked ≡ (at (program_of a.bytes) a.uniforms a.registers j).registers
      go (refuses _) e = let l : j ≤ 0 = rw e at h in absurd (omega arith)
      go (gives _) e =
          let l : j ≤ steps_run (run_from (program_of a.bytes) a.uniforms a.registers a.trace 0 a.limit) = rw e at h in
          let c : steps_run (run_from (program_of a.bytes) a.uniforms a.registers [] 0 j) ≡ j = counted (program_of a.bytes) a.uniforms a.registers a.trace j a.limit 0 (omega arith) ∙ omega arith in
          rw (judged e) (ap (λ (k : ℕ). (at (program_of a.bytes) a.uniforms a.registers k).registers) c)
