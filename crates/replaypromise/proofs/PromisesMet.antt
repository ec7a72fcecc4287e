-- The replay that is defined keeps the promise. Assumes nothing.
use mathlib.Core.Path.{◌≡◌, refl, sym, ap, ◌∙◌, subst}
use mathlib.Core.Bool.{Bool, true, false}
use mathlib.Core.List.{List}
use mathlib.Core.Logic.{⊎_elim}
use Prim.Native.Nat.{ℕ, zero, suc, ◌%◌, ◌<◌}
use native.Mathlib.Omega.{arith}
use lib.Dec.{eqb}
use lib.ListN.{length}
use borrow.Author.Tests.{eqb-true, eqb-false}
use Rattle.bits.specs.Fields.{choose}
use Rattle.bits.specs.Outcomes.{Outcome, gives, refuses, passes, require, ◌then◌, first}
use Rattle.bits.proofs.OutcomeLaws.{never, then_gives, then_refuses, required, told as same_told}
use Rattle.bits.proofs.FirstLaws.{both, first_of, first_refused}
use Rattle.record.specs.Registers.{ends}
use Rattle.container.specs.Container.{count_of}
use Rattle.safety.specs.declared.verdict.Finding.{Finding}
use Rattle.safety.specs.Program.{Program, Fact, program_of, machine, machine_of}
use Rattle.safety.specs.Verdict.{Judgement, plain, verdict_of}
use Rattle.safety.proofs.Demand3.{demand3_at}
use Rattle.walks.specs.Walks.{Walk, start, step, Holds, AllSafe}
use Rattle.walks.proofs.WalkLaws as walk_laws
use Rattle.operations.specs.Replayable.{supplied, all_three, replayable, fault}
use Rattle.machine.specs.Steps.{after}
use Rattle.run.specs.declared.Stop.{Stop}
use Rattle.run.specs.declared.Stop.TheVariants.{Differs, Ended, Limit}
use Rattle.run.specs.Run.{at, visited, run, steps_run}
use Rattle.run.proofs.StepLaws.{goes}
use Rattle.replay.specs.Replay.{Asked, judge_trace, judge_faults, judge_asked, left_by, replay_outcome, replay_registers}
use Rattle.replay.proofs.FaultLaws.{each_fault}
use Rattle.replaypromise.specs.Promises.{Asks, instruction, state, run_at, indexes, Clean, Reason, by_check, by_length, by_row, by_uniform, Told, Runs, Replays}
use Rattle.replaypromise.proofs.ReadLaws.{reads_only}
use Rattle.replaypromise.proofs.CourseLaws.{all_alike, found, Course, course, range, onward, alike, Last, told}

-- ---- refusals

module _ (a : Asked) where
  -- what passes is clean
  cleaned : (n : ℕ) → first (each_fault a.bytes a.uniforms) n ≡ passes → Clean a n
  cleaned n e i l = eqb-true (fault (length a.uniforms) (instruction a i)) 0 (required _ _ (first_of (each_fault a.bytes a.uniforms) n e i l))

  module _ (accepted : verdict_of a.bytes ≡ passes) (whole : length a.trace % 64 ≡ 0) where
    -- 30 or 31, for the lowest
    at_fault : (f : Finding) → judge_faults a.bytes a.uniforms ≡ refuses f → Reason a f
    unfolding judge_faults fault
    at_fault f e =
        let r = first_refused (each_fault a.bytes a.uniforms) (count_of a.bytes) e in
        go r.0 r.1 (cleaned r.0 r.3) (replayable (instruction a r.0)) refl (all_three (supplied (length a.uniforms)) (instruction a r.0)) refl r.2
      where
        go : (i : ℕ) → i < count_of a.bytes → Clean a i → (t : Bool) → replayable (instruction a i) ≡ t → (u : Bool) → all_three (supplied (length a.uniforms)) (instruction a i) ≡ u
            → require (eqb (choose t (choose u 0 31) 30) 0) (plain (choose t (choose u 0 31) 30) 0 i) ≡ refuses f → Reason a f
        go i l c true p true q e = never (sym e)
        go i l c true p false q e = subst (Reason a) (same_told e) (by_uniform i accepted whole l c p q)
        go i l c false p u q e = subst (Reason a) (same_told e) (by_row i accepted whole l c p)

  reason : (f : Finding) → judge_asked a ≡ refuses f → Reason a f
  unfolding judge_asked ◌then◌
  reason f e = check (verdict_of a.bytes) refl e
    where
      by_trace : verdict_of a.bytes ≡ passes → (t : Bool) → eqb (length a.trace % 64) 0 ≡ t
          → (require t (plain 32 0 0) then judge_faults a.bytes a.uniforms) ≡ refuses f → Reason a f
      by_trace q true p e = at_fault q (eqb-true (length a.trace % 64) 0 p) f e
      by_trace q false p e = subst (Reason a) (same_told e) (by_length q (eqb-false (length a.trace % 64) 0 p))

      check : (v : Judgement) → verdict_of a.bytes ≡ v → (v then judge_trace a.trace then judge_faults a.bytes a.uniforms) ≡ refuses f → Reason a f
      check (refuses g) q e = subst (Reason a) (same_told e) (by_check g q)
      check (gives tt) q e = by_trace q (eqb (length a.trace % 64) 0) refl e

-- ---- walks

module _ (p : Program) (uniforms start_registers : List ℕ) (safe : AllSafe (machine p)) where
  pub walk_to : (k : ℕ) → ((j : ℕ) → j < k → ends (p.instruction (at p uniforms start_registers j).index) ≡ false) → Walk (machine p) (visited p uniforms start_registers (suc k))
  unfolding visited at machine after
  walk_to zero q = start
  walk_to (suc k) q =
      let w = walk_to k (λ j l. q j (omega arith)) in
      let g = goes p safe w (q k (omega arith)) uniforms (at p uniforms start_registers k).registers in
      step w g.0 g.1

  pub held_there : (k : ℕ) → Walk (machine p) (visited p uniforms start_registers (suc k)) → (g : Fact) → (machine p).needs (at p uniforms start_registers k).index g
      → Holds (machine p) (visited p uniforms start_registers (suc k)) g
  unfolding visited
  held_there k w g n = walk_laws.held (machine p) (at p uniforms start_registers k).index (visited p uniforms start_registers k) g ((safe _ w).0.needed g n)

-- ---- runs

module _ (a : Asked) (asks : Asks a) where
  abbrev P : Program
  P = program_of a.bytes

  module _ (accepted : verdict_of a.bytes ≡ passes) {s : Stop} (c : Course P a.uniforms a.registers a.trace 0 a.limit s) where
    safe : AllSafe (machine_of a.bytes)
    safe = ((demand3_at a.bytes asks.bytes).sound accepted).1

    quiet : (k : ℕ) → k < steps_run s → (j : ℕ) → j < k → ends (run_at a j) ≡ false
    quiet k l j h = onward P a.uniforms a.registers a.trace c j (omega arith) (omega arith)

    walks : (k : ℕ) → k < steps_run s → Walk (machine_of a.bytes) (indexes a (suc k))
    walks k l = walk_to P a.uniforms a.registers safe k (quiet k l)

    tell : (s : Stop) → Last P a.uniforms a.registers a.trace 0 a.limit s → Told a s
    unfolding Last
    tell (Differs k r) l =
        let f = found (state a (suc k)).registers a.trace k (rw l.0 at l.1) in
        rw l.0 (f.0, rw l.0 at l.1, f.1, f.2)
    tell (Ended n) l = l
    tell (Limit n) l = (l.0 ∙ omega arith, λ k h. l.1 k (omega arith) h)

    pub runs : length a.trace % 64 ≡ 0 → Clean a (count_of a.bytes) → {left : List ℕ} → left ≡ (state a (steps_run s)).registers → Runs a s left
    runs whole clean e = record {
      accepted = accepted;
      whole = whole;
      clean = clean;
      within = let r = range P a.uniforms a.registers a.trace c in omega (arith, r.1);
      registers = e;
      walk = λ k q. walks k (omega arith);
      held = λ k l. held_there P a.uniforms a.registers safe k (walks k l);
      reads_only = λ k l. reads_only a.uniforms (count_of a.bytes) (state a k).index (run_at a k);
      alike = λ k l h u. all_alike (state a (suc k)).registers a.trace k (alike P a.uniforms a.registers a.trace c k (omega arith) l u) h;
      onward = λ k l. onward P a.uniforms a.registers a.trace c k (omega arith) l;
      told = tell s (told P a.uniforms a.registers a.trace c);
    }

-- ---- the whole

same_stop : {s t : Stop} → ◌≡◌ {A = Outcome Finding Stop} (gives s) (gives t) → s ≡ t
same_stop e = cc

-- a refusal is one before step one
before_step_one : (a : Asked) (f : Finding) → replay_outcome a ≡ refuses f → judge_asked a ≡ refuses f
unfolding replay_outcome
before_step_one a f e = ⊎_elim (λ q. q) (λ q. never (sym q)) (then_refuses (judge_asked a) (gives (run (program_of a.bytes) a.uniforms a.registers a.trace a.limit)) f e)

pub replays : Replays replay_outcome replay_registers
unfolding replay_registers replay_outcome judge_asked judge_faults run
replays = record {
  refused = λ a asks f e. (reason a f (before_step_one a f e), ap (left_by a) e);
  ran = λ a asks s e.
      let g = then_gives (judge_asked a) (gives (run (program_of a.bytes) a.uniforms a.registers a.trace a.limit)) s e in
      let v = both g.0 in
      let w = both v.1 in
      let c = subst (λ (z : Stop). Course (program_of a.bytes) a.uniforms a.registers a.trace 0 a.limit z) (same_stop g.1) (course (program_of a.bytes) a.uniforms a.registers a.trace 0 a.limit) in
      runs a asks v.0 c (eqb-true (length a.trace % 64) 0 (required _ _ w.0)) (cleaned a (count_of a.bytes) w.1) (ap (left_by a) e);
}
