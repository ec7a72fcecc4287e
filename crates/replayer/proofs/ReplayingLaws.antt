-- What is sent of what was read. Assumes nothing.
use mathlib.Core.Path.{◌≡◌, ap, ap₂, ◌∙◌}
use mathlib.Core.Bool.{Bool, true, false}
use mathlib.Core.List.{List, []}
use Prim.Native.Nat.{ℕ, ◌<◌, ◌≤◌}
use native.Mathlib.Omega.{arith}
use lib.ListN.{length}
use Rattle.bits.specs.Fields.{choose}
use Rattle.bits.specs.Outcomes.{Outcome}
use Rattle.safety.specs.declared.verdict.Finding.{Finding}
use Rattle.run.specs.declared.Stop.{Stop}
use Rattle.replay.specs.Replay.{Asked, asked, replay_outcome, replay_registers}
use Rattle.runbytes.specs.declared.Front.{Front}
use Rattle.runbytes.specs.RunBytes.{front_in, registers_in, asked_in}
use Rattle.runbytes.specs.Served.Whole.{Whole}
use Rattle.runbytes.proofs.SplitLaws.{whole}
use Rattle.replaytext.specs.ReplayText.{register_row}
use Rattle.input.specs.Input.{Input}
use Rattle.replayer.specs.Replaying.{answer_in, steps_of, row_count, row_text, Read, Loaded}
use Rattle.replayer.proofs.StepLaws.{few_steps, left_alone}

-- at most as many lines of registers as steps
at_most : (t : Bool) (n : ℕ) → choose t n 0 ≤ n
at_most true n = omega arith
at_most false n = omega arith

module _ {input : Input} {s : List ℕ} {f : Front} (r : Read input s f) where
  pub is_whole : Whole s f
  is_whole = whole s r.parts

  -- there is room for the start registers
  pub roomy : 272 ≤ length s
  roomy = omega (arith, is_whole.there)

  module _ {c u t start : List ℕ} (l : Loaded s c u t) (b : start ≡ registers_in s) where
    abbrev given : Asked
    given = asked c start u t f.limit

    same : given ≡ asked_in s
    same = rw (l.container, b, l.uniforms, l.trace, is_whole.front)

    pub few_run : {o : Outcome Finding Stop} → o ≡ replay_outcome given → steps_of o ≤ f.limit
    few_run e = rw e (few_steps given)

    pub answered : {o : Outcome Finding Stop} → o ≡ replay_outcome given → o ≡ answer_in s
    answered e = e ∙ ap replay_outcome same

    pub left_is : {left : List ℕ} → left ≡ replay_registers given → left ≡ replay_registers (asked_in s)
    left_is e = e ∙ ap replay_registers same

    pub counted : {o : Outcome Finding Stop} {n : ℕ} → o ≡ replay_outcome given → n ≡ choose f.rows (steps_of o) 0 → n ≡ row_count s
    counted e n = n ∙ ap₂ (λ (g : Front) (x : Outcome Finding Stop). choose g.rows (steps_of x) 0) is_whole.front (answered e)

    -- the line of the registers after j steps
    pub row_is : {j : ℕ} {left : List ℕ} → 0 < j → j ≤ row_count s → left ≡ replay_registers (asked c start u [] j) → register_row left ≡ row_text s j
    unfolding row_text
    row_is {j} z h e = ap register_row (e ∙ rw (l.container, b, l.uniforms) (left_alone (asked_in s) j z (omega (arith, at_most (front_in s).rows (steps_of (answer_in s))))))
