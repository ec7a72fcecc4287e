-- The promise is kept by no lazy replay: not by one that always answers `end`, nor one that never compares, nor one that compares register 0
-- alone. The last two fail at a container that is written out here. Assumes nothing.
use mathlib.Core.Path.{◌≡◌, refl, sym, ap, ◌∙◌}
use mathlib.Core.Bool.{true, true≢false}
use mathlib.Core.List.{List, [], ◌∷◌}
use Prim.Native.Nat.{ℕ, zero, suc, ◌+◌, ◌*◌, ◌%◌, ◌<◌}
use native.Mathlib.Omega.{arith}
use lib.Dec.{lit<}
use lib.ListN.{get_or, length, replicate, get_or-eq_default}
use Rattle.bits.specs.Bytes.{little}
use Rattle.bits.specs.Fields.{assigned}
use Rattle.bits.specs.Sets.{minus, lowest_from}
use Rattle.bits.specs.Outcomes.{Outcome, gives, refuses, passes, ◌then◌, first, each}
use Rattle.bits.specs.Signed.{unsigned, signed}
use Rattle.bits.proofs.OutcomeLaws.{never}
use Rattle.rows.specs.Rows.{rows}
use Rattle.rows.specs.Layout.{modifier_at, places, slots, find}
use Rattle.rows.specs.Sources.{meaning}
use Rattle.record.specs.Legality.{judge_modifiers, judge_sources, judge}
use Rattle.reading.specs.Reader.{lowest_stray, read_row, read}
use Rattle.record.specs.Registers.{reads, kills, defines, writes, ends}
use Rattle.container.specs.Formats.{known, format_of}
use Rattle.container.specs.Container.{version_of, count_of, entry_of, words_of, annotations_of}
use Rattle.container.specs.Opening.{open_outcome}
use Rattle.safety.specs.declared.verdict.Finding.{Finding}
use Rattle.safety.specs.Program.{successors, fills, after, instruction_at, annotation_at}
use Rattle.safety.specs.Verdict.{none_missing, judge_successor, judge_flow, judge_program, verdict_of}
use Rattle.safety.proofs.LazyChecks.{container, none, nop_end}
use Rattle.operations.specs.Replayable.{runs, writes_whole, takes_whole, supplied, all_three, replayable}
use Rattle.machine.specs.Steps.{registers_after, after as after_step}
use Rattle.trace.specs.Trace.{recorded_steps, recorded}
use Rattle.run.specs.declared.Stop.{Stop}
use Rattle.run.specs.declared.Stop.TheVariants.{Differs, Ended, Limit}
use Rattle.run.specs.Run.{at}
use Rattle.replay.specs.Replay.{Asked, asked}
use Rattle.replaypromise.specs.Promises.{Asks, instruction, state, run_at, Alike, Reason, by_check, by_length, by_row, by_uniform, Runs, Replays}
use Rattle.replaypromise.specs.Lazy.{AlwaysEnds, NeverCompares, ComparesRegister0}

-- NOP with end, alone
good : List ℕ
good = container 1 1 none nop_end none

-- 64 registers that hold 0, and two recorded steps: all 0, and 1 for r1
zeros : List ℕ
zeros = replicate 64 0

other : List ℕ
other = 0 ∷ 1 ∷ replicate 62 0

call : ℕ → List ℕ → Asked
call limit trace = asked good zeros [] trace limit

fine : (limit : ℕ) (trace : List ℕ) → Asks (call limit trace)
unfolding call good zeros
fine limit trace = record { bytes = tt; registers = refl }

accepted : verdict_of good ≡ passes
unfolding good verdict_of first each judge_program judge_flow judge_successor none_missing after minus open_outcome version_of count_of entry_of words_of annotations_of little instruction_at annotation_at successors read read_row find rows places slots modifier_at lowest_stray lowest_from assigned judge judge_modifiers judge_sources unsigned signed meaning reads kills defines ◌then◌ known format_of fills writes
accepted = refl

-- its one instruction is NOP with end, which the machine can run
counted : count_of good ≡ 1
unfolding good count_of little
counted = refl

replayable_there : (limit : ℕ) (trace : List ℕ) → replayable (instruction (call limit trace) 0) ≡ true
unfolding call good instruction_at count_of words_of version_of known format_of little read read_row find rows places slots modifier_at lowest_stray lowest_from assigned judge judge_modifiers judge_sources unsigned signed meaning ◌then◌ replayable runs writes_whole takes_whole
replayable_there limit trace = refl

supplied_there : (limit : ℕ) (trace : List ℕ) → all_three (supplied 0) (instruction (call limit trace) 0) ≡ true
unfolding call good instruction_at count_of words_of version_of known format_of little read read_row find rows places slots modifier_at lowest_stray lowest_from assigned judge judge_modifiers judge_sources unsigned signed meaning ◌then◌
supplied_there limit trace = refl

ends_there : (limit : ℕ) (trace : List ℕ) → ends (run_at (call limit trace) 0) ≡ true
unfolding call good at instruction_at count_of words_of version_of known format_of little read read_row find rows places slots modifier_at lowest_stray lowest_from assigned judge judge_modifiers judge_sources unsigned signed meaning ◌then◌
ends_there limit trace = refl

-- and leaves the registers as they were
unmoved : (limit : ℕ) (trace : List ℕ) → (state (call limit trace) 1).registers ≡ zeros
unfolding call good at after_step registers_after instruction_at count_of words_of version_of known format_of little read read_row find rows places slots modifier_at lowest_stray lowest_from assigned judge judge_modifiers judge_sources unsigned signed meaning ◌then◌
unmoved limit trace = refl

-- there is no instruction but the first
only_first : (i : ℕ) → i < count_of good → i ≡ 0
only_first i l = let q : i < 1 = rw counted at l in omega arith

-- so the run is not refused, where the trace has whole steps
not_refused : (limit : ℕ) (trace : List ℕ) → length trace % 64 ≡ 0 → (f : Finding) → ¬ Reason (call limit trace) f
unfolding call
not_refused limit trace whole _ (by_check f e) = never (sym e ∙ accepted)
not_refused limit trace whole _ (by_length v h) = h whole
not_refused limit trace whole _ (by_row i v w l c e) = true≢false (sym (replayable_there limit trace) ∙ ap (λ (k : ℕ). replayable (instruction (call limit trace) k)) (sym (only_first i l)) ∙ e)
not_refused limit trace whole _ (by_uniform i v w l c p e) = true≢false (sym (supplied_there limit trace) ∙ ap (λ (k : ℕ). all_three (supplied 0) (instruction (call limit trace) k)) (sym (only_first i l)) ∙ e)

-- where the trace agrees with the registers, only `end` stops the run
ends_only : (trace : List ℕ) → ((k r : ℕ) → k < recorded_steps trace → Alike (call 5 trace) k r) → (s : Stop) {left : List ℕ} → Runs (call 5 trace) s left → (n : ℕ) × (s ≡ Ended (suc n))
unfolding call
ends_only trace fits (Differs k r) w = absurd (w.told.2 (fits k r w.told.0))
ends_only trace fits (Ended n) w = (w.told.0, ap Ended w.told.1)
ends_only trace fits (Limit n) w = absurd (true≢false (sym (ends_there 5 trace) ∙ w.told.1 0 (omega (arith, w.told.0))))

-- and against the other trace it does not end well
not_alike : (n : ℕ) {left : List ℕ} → ¬ Runs (call 5 other) (Ended (suc n)) left
unfolding call other zeros
not_alike n w =
    let l : 0 < recorded_steps other = lit< tt in
    let e = rw (unmoved 5 other) at (w.alike 0 (omega arith) l (λ z. z) 1 (omega arith)) in
    let z : ◌≡◌ {A = ℕ} 0 1 = e in
    omega arith

module _ {answer : Asked → Outcome Finding Stop} {left : Asked → List ℕ} (promise : Replays answer left) where
  -- the answer, where nothing is refused
  answered : (limit : ℕ) (trace : List ℕ) → length trace % 64 ≡ 0 → (s : Stop) × (answer (call limit trace) ≡ gives s)
  answered limit trace whole = go (answer (call limit trace)) refl
    where
      go : (o : Outcome Finding Stop) → answer (call limit trace) ≡ o → (s : Stop) × (answer (call limit trace) ≡ gives s)
      go (gives s) e = (s, e)
      go (refuses f) e = absurd (not_refused limit trace whole f (promise.refused (call limit trace) (fine limit trace) f e).0)

  -- no answer to a trace that agrees with the registers is the answer to the other one
  told_apart : (trace : List ℕ) → length trace % 64 ≡ 0 → ((k r : ℕ) → k < recorded_steps trace → Alike (call 5 trace) k r) → ¬ (answer (call 5 trace) ≡ answer (call 5 other))
  unfolding other
  told_apart trace whole fits same =
      let s = answered 5 trace whole in
      let n = ends_only trace fits s.0 (promise.ran (call 5 trace) (fine 5 trace) s.0 s.1) in
      not_alike n.0 (promise.ran (call 5 other) (fine 5 other) (Ended (suc n.0)) (sym same ∙ s.1 ∙ ap gives n.1))

-- ---- the three

-- with no step allowed, `end` would be an untruth
pub always_ends : (answer : Asked → Outcome Finding Stop) (left : Asked → List ℕ) → AlwaysEnds answer → ¬ Replays answer left
unfolding call
always_ends answer left lazy promise =
    let s = answered promise 0 [] refl in
    let n = lazy (call 0 []) s.0 s.1 in
    let w = promise.ran (call 0 []) (fine 0 []) (Ended n.0) (s.1 ∙ ap gives n.1) in
    absurd (omega (arith, w.within, w.told.1))

pub never_compares : (answer : Asked → Outcome Finding Stop) (left : Asked → List ℕ) → NeverCompares answer → ¬ Replays answer left
unfolding call other
never_compares answer left lazy promise = told_apart promise [] refl (λ k r l. absurd (omega arith)) (sym (lazy (call 5 other) refl))

-- past the 64 numbers there are none
past : (xs : List ℕ) → length xs ≡ 64 → (k : ℕ) → recorded xs (suc k) 0 ≡ 0
past xs h k = get_or-eq_default xs 0 (omega arith)

same_0 : (k : ℕ) → recorded other k 0 ≡ recorded zeros k 0
unfolding other zeros
same_0 zero = refl
same_0 (suc k) = past other refl k ∙ sym (past zeros refl k)

first_only : (k : ℕ) → k < recorded_steps zeros → k < 1
unfolding zeros
first_only k l = l

zeros_fit : (k r : ℕ) → k < recorded_steps zeros → Alike (call 5 zeros) k r
unfolding call
zeros_fit k r l =
    let n : k ≡ 0 = omega (arith, first_only k l) in
    let m : r ≡ 64 * 0 + r = omega arith in
    rw (n, unmoved 5 zeros) (ap (λ (i : ℕ). get_or zeros i 0) m)

pub compares_register_0 : (answer : Asked → Outcome Finding Stop) (left : Asked → List ℕ) → ComparesRegister0 answer → ¬ Replays answer left
unfolding call other zeros
compares_register_0 answer left lazy promise = told_apart promise zeros refl zeros_fit (lazy (call 5 zeros) other refl same_0)
