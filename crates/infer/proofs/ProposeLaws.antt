-- From words to a proposal: how the sweeps begin, and what they leave. Assumes nothing.
use mathlib.Core.Path.{◌≡◌, refl, sym, ap, ◌∙◌}
use mathlib.Core.List.{List, []}
use Prim.Native.Nat.{ℕ, zero, suc, ◌^◌, ◌<◌, ◌≤◌}
use native.Mathlib.Omega.{arith}
use lib.ListN.{length, get_or, set, take, replicate, length-set, length-take, length-replicate, get_or-replicate}
use lib.Seq.{get_or-set_same, get_or-set_other, get_or-take}
use Rattle.bits.specs.Halves.{Half, lower, upper, half_of, halves, both}
use Rattle.bits.specs.declared.halves.Halves.{Halves}
use Rattle.bits.specs.Outcomes.{Outcome, gives, refuses, passes, ◌then◌, first}
use Rattle.bits.proofs.HalfLaws.{half_of_both}
use Rattle.bits.proofs.OutcomeLaws.{never, then_passed, then_refused}
use Rattle.container.specs.Formats.{most_instructions}
use Rattle.safety.specs.declared.verdict.Finding.{Finding}
use Rattle.safety.specs.Program.{Program, program_in}
use Rattle.safety.specs.Verdict.{Judgement, judge_word, judge_program}
use Rattle.sweeps.specs.Sweeps.{all_registers, first_note, note, sweeps, note_bytes, proposal}
use Rattle.sweeps.specs.Served.Tracks.{half_note}
use Rattle.sweeps.specs.Served.Plan.{Planned, Holds, Full, Begun, BothBegun, BothRested}
use Rattle.sweeps.proofs.ByteLaws.{notes_ext}
use Rattle.infer.specs.Inference.{none_acceptable}
use Rattle.infer.specs.Served.Handed.{Ready, Swept, Handed}

-- the first notes of a half, from sets of all registers
first_holds : (p : Program) (h : Half) (l : List ℕ) → 0 < p.count → Full l p.count → Holds p h 0 (set l 0 (half_of h p.entry))
unfolding note first_note
first_holds p h l some f = record { long = length-set l 0 (half_of h p.entry) ∙ f.long; are = are }
  where
    are : (j : ℕ) → j < p.count → get_or (set l 0 (half_of h p.entry)) j 0 ≡ half_note p h 0 j
    are zero q = get_or-set_same l 0 (half_of h p.entry) 0 (omega (arith, f.long))
    are (suc j) q = get_or-set_other l 0 (suc j) (half_of h p.entry) 0 (λ e. omega arith) ∙ f.all (suc j) q ∙ sym (half_of_both h all_registers)

-- how long the code's lists are
abbrev list_room : ℕ
list_room = 2056

-- the first n of a list of all registers
pub full : (n : ℕ) → n ≤ most_instructions → Full (take n (replicate list_room all_registers)) n
full n h = record {
  long = length-take n (replicate list_room all_registers) ∙ omega (arith, length-replicate list_room all_registers);
  all = λ j l. get_or-take n (replicate list_room all_registers) j 0 l ∙ get_or-replicate list_room j all_registers 0 (omega arith);
}

module _ (v : ℕ) (words : List ℕ) (n : ℕ) (entry : Halves) where
  abbrev pub P : Program
  P = program_in v words [] n entry

  -- the plan of a half, in which the entry set plays no part, and its first notes
  begins_half : {h : Half} {ks ds fs js l : List ℕ} → Ready v words n entry → entry.low < 2 ^ 64 → entry.high < 2 ^ 64
      → Planned (program_in v words [] n (both 0)) h ks ds fs js n → Full l n → Begun P h ks ds fs js (set l 0 (half_of h entry))
  begins_half {h} {l = l} r low high plan f = record {
    ranged = record { low = low; high = high; few = r.worded.few };
    plan = record { kills = plan.kills; fills = plan.fills; falls = plan.falls; jumps = plan.jumps };
    notes = first_holds P h l r.some f;
  }

  pub begins : {ks ls hs fs js a b : List ℕ} → Ready v words n entry → entry.low < 2 ^ 64 → entry.high < 2 ^ 64
      → Planned (program_in v words [] n (both 0)) lower ks ls fs js n × Planned (program_in v words [] n (both 0)) upper ks hs fs js n
      → Full a n → Full b n → BothBegun P ks ls hs fs js (set a 0 entry.low) (set b 0 entry.high)
  begins r low high plan f g = record {
    is_known = r.is_known;
    entered = r.entered;
    low = begins_half {h = lower} r low high plan.0 f;
    high = begins_half {h = upper} r low high plan.1 g;
  }

  -- all words read, and the sweeps have come to rest
  pub proposes : first (judge_word words) n ≡ passes → {k : ℕ} {lows highs out : List ℕ} → BothRested P k lows highs
      → out ≡ note_bytes v (λ j. halves (get_or lows j 0) (get_or highs j 0)) (length lows) → Swept v words n entry (gives k) out
  unfolding proposal
  proposes r {k} {lows} {highs} {out} s e = record {
    answers = ap gives s.counted ∙ sym (then_passed _ r);
    leaves = λ j q.
        e ∙ ap (note_bytes v (λ j. halves (get_or lows j 0) (get_or highs j 0))) s.long
        ∙ notes_ext v (λ j. halves (get_or lows j 0) (get_or highs j 0)) (note P (sweeps P)) n s.notes;
  }

  -- a word does not read
  pub refuses_word : {f : Finding} {out : List ℕ} → refuses f ≡ first (judge_word words) n → Swept v words n entry (refuses f) out
  refuses_word e = record { answers = sym (then_refused _ (sym e)); leaves = λ k q. never q }

-- a proposal that the check accepts, and one that it refuses
module _ (v : ℕ) (words : List ℕ) (n : ℕ) (entry : Halves) (offer : List ℕ) (k : ℕ) (buffer : List ℕ)
    {j : Judgement} (e : j ≡ (first (judge_word words) n then judge_program (program_in v words offer n entry))) where
  pub hands_over : j ≡ passes → {after : List ℕ} → after ≡ offer → Handed v words n entry offer k buffer (gives k) after
  unfolding ◌then◌
  hands_over p q = record { answers = rw (sym e ∙ p); leaves = q }

  pub holds_back : {f : Finding} → j ≡ refuses f → {r : Outcome Finding ℕ} → r ≡ refuses none_acceptable → Handed v words n entry offer k buffer r buffer
  unfolding ◌then◌
  holds_back p q = rw q (record { answers = rw (sym e ∙ p); leaves = refl })
