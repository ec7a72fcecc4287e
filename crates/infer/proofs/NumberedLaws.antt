-- The numbers and indexes that refusals of the maker have, and the number of sweeps that it gives. Assumes nothing.
use mathlib.Core.Path.{◌≡◌, refl}
use mathlib.Core.Bool.{Bool, true, false}
use mathlib.Core.List.{List}
use mathlib.Core.Logic.{◌⊎◌, inl, inr}
use Prim.Native.Nat.{ℕ, suc, ◌^◌, ◌<◌, ◌≤◌}
use native.Mathlib.Omega.{arith}
use lib.ListN.{length}
use Rattle.bits.specs.declared.halves.Halves.{Halves}
use Rattle.bits.specs.Outcomes.{Outcome, gives, refuses, passes, require, ◌then◌, first}
use Rattle.bits.proofs.FirstLaws.{first_refused}
use Rattle.bits.proofs.OutcomeLaws.{never, then_gives, required, Refusals, of_gives, of_refuses, of_then, weaker, on, Between}
use Rattle.record.specs.declared.instruction.Instruction.{Instruction}
use Rattle.record.specs.declared.answer.Refusal.{Refusal}
use Rattle.reading.specs.Reader.{read}
use Rattle.container.specs.Formats.{known, most_instructions}
use Rattle.container.specs.Container.{eight}
use Rattle.packing.specs.Packing.{word_count, fitting, Fitting, container_bytes}
use Rattle.packing.proofs.PackLaws.{fitting_of, few_words}
use Rattle.safety.specs.declared.verdict.Finding.{Finding}
use Rattle.safety.specs.Program.{Program, machine}
use Rattle.safety.specs.Verdict.{Judgement, judge_reading, judge_word, verdict_of, plain}
use Rattle.safety.proofs.NumberedLaws.{ToldBetween, whole_words_numbers}
use Rattle.sweeps.specs.Sweeps.{sweeps}
use Rattle.sweeps.proofs.SweepLaws as sweep_laws
use Rattle.infer.specs.Inference.{unannotated, proposed, none_acceptable, pass_on, infer_outcome}
use Rattle.infer.proofs.EntryLaws.{taken_small}

abbrev pub FromTheMaker : ℕ → Type 0
FromTheMaker n = Between 2 7 n ⊎ ((n ≡ 11) ⊎ ((n ≡ 12) ⊎ (n ≡ 24)))

-- words that do not read: the index is that of one of them
reading_index : (i : ℕ) (o : Outcome Refusal Instruction) → Refusals (λ (f : Finding). f.index ≡ i) (judge_reading i o)
reading_index i (gives x) = of_gives _ tt
reading_index i (refuses f) = of_refuses _ (plain f.number f.place i) refl

words_index : (words : List ℕ) (n : ℕ) → Refusals (λ (f : Finding). f.index < n) (first (judge_word words) n)
words_index words n f e =
    let w = first_refused (judge_word words) n e in
    let q = reading_index w.0 (read (eight words w.0)) f w.2 in
    omega (arith, q, w.1)

module _ (v : ℕ) (words : List ℕ) (entry : Halves) (buffer : List ℕ) where
  abbrev n : ℕ
  n = word_count (length words)

  abbrev Q : Program
  Q = unannotated v words entry

  -- what holds of 11, of 12, of 24 and of each refusal of a word holds of each refusal
  pub all_refusals : (P : Finding → Type 0) → P (plain 11 0 0) → P (plain 12 0 0) → P none_acceptable
      → (Fitting v (length words) (length buffer) → Refusals P (first (judge_word words) n)) → Refusals P (infer_outcome v words entry buffer)
  unfolding infer_outcome ◌then◌
  all_refusals P p11 p12 p24 h = on P (known v) (plain 11 0 0) p11 (go (fitting v (length words) (length buffer)) refl)
    where
      checked : (j : Judgement) → Refusals P (pass_on j then gives (sweeps Q))
      checked (gives tt) = of_gives P (sweeps Q)
      checked (refuses f) = of_refuses P none_acceptable p24

      go : (t : Bool) → fitting v (length words) (length buffer) ≡ t
          → Refusals P (require t (plain 12 0 0) then first (judge_word words) n
          then pass_on (verdict_of (container_bytes v entry words (proposed v words entry))) then gives (sweeps Q))
      go true e =
          of_then P (first (judge_word words) n) _ (h (fitting_of v (length words) (length buffer) e))
          (checked (verdict_of (container_bytes v entry words (proposed v words entry))))
      go false e = of_refuses P (plain 12 0 0) p12

  pub infer_numbers : Refusals (λ (f : Finding). FromTheMaker f.number) (infer_outcome v words entry buffer)
  infer_numbers =
      all_refusals (λ (f : Finding). FromTheMaker f.number) (inr (inl refl)) (inr (inr (inl refl))) (inr (inr (inr refl)))
      (λ fits. weaker (λ (f : Finding) (b : ToldBetween 2 7 f). inl b) (whole_words_numbers words n fits.whole))

  pub infer_indexes : Refusals (λ (f : Finding). f.index < most_instructions) (infer_outcome v words entry buffer)
  infer_indexes =
      all_refusals (λ (f : Finding). f.index < most_instructions) (omega arith) (omega arith) (omega arith)
      (λ fits. weaker (λ (f : Finding) (l : f.index < n). omega (arith, l, few_words v (length words) (length buffer) fits)) (words_index words n))

  -- where something is given, the version is there, the lengths were right and it is the number of sweeps
  pub given : (k : ℕ) → infer_outcome v words entry buffer ≡ gives k
      → (known v ≡ true) × Fitting v (length words) (length buffer) × (verdict_of (container_bytes v entry words (proposed v words entry)) ≡ passes) × (k ≡ sweeps Q)
  unfolding infer_outcome
  given k e =
      let s = verdict_of (container_bytes v entry words (proposed v words entry)) in
      let o = then_gives (require (known v) (plain 11 0 0)) _ k e in
      let a = then_gives (require (fitting v (length words) (length buffer)) (plain 12 0 0)) _ k o.1 in
      let b = then_gives (first (judge_word words) n) _ k a.1 in
      let c = then_gives (pass_on s) _ k b.1 in
      (required _ _ o.0, fitting_of v (length words) (length buffer) (required _ _ a.0), passed s c.0, same c.1)
    where
      passed : (j : Judgement) → pass_on j ≡ passes → j ≡ passes
      passed (gives tt) q = refl
      passed (refuses g) q = never q

      same : {x : ℕ} → ◌≡◌ {A = Outcome Finding ℕ} (gives x) (gives k) → k ≡ x
      same q = cc

  some_sweeps : 0 < sweeps Q
  unfolding sweeps
  some_sweeps = omega arith

  -- from 1 to n + 1 sweeps
  module _ (low : entry.low < 2 ^ 64) (high : entry.high < 2 ^ 64) (k : ℕ) (e : infer_outcome v words entry buffer ≡ gives k) where
    pub infer_sweeps : Between 1 (suc n) k
    unfolding machine
    infer_sweeps =
        let g = given k e in
        let ends : sweeps Q ≤ suc n = (sweep_laws.proposed Q (taken_small v entry low high) g.1.some).ends in
        (omega (arith, some_sweeps, g.3), omega (arith, ends, g.3))

    -- and n is at most 2048
    pub infer_sweeps_few : Between 1 (suc most_instructions) k
    infer_sweeps_few = (infer_sweeps.0, omega (arith, infer_sweeps.1, few_words v (length words) (length buffer) (given k e).1))
