-- The index of a finding, its register and the number of sweeps have room in their place. Assumes nothing.
use mathlib.Core.Path.{◌≡◌, sym, ◌∙◌}
use mathlib.Core.List.{List}
use Prim.Native.Nat.{ℕ, ◌^◌, ◌<◌}
use native.Mathlib.Omega.{arith}
use lib.Dec.{lit<}
use lib.ListN.{length, get_or}
use Rattle.bits.specs.declared.halves.Halves.{Halves}
use Rattle.bits.specs.Outcomes.{Outcome, gives, refuses, first}
use Rattle.bits.proofs.OutcomeLaws.{Refusals, of_gives, of_refuses}
use Rattle.bits.proofs.FirstLaws.{first_refusals}
use Rattle.record.specs.declared.instruction.Instruction.{Instruction}
use Rattle.record.specs.declared.answer.Refusal.{Refusal}
use Rattle.reading.specs.Reader.{read}
use Rattle.container.specs.Container.{count_of, eight}
use Rattle.container.proofs.OpeningLaws.{count_two}
use Rattle.packing.specs.Packing.{word_count}
use Rattle.safety.specs.declared.verdict.Finding.{Finding}
use Rattle.safety.specs.Program.{program_of}
use Rattle.safety.specs.Verdict.{plain, judge_reading, judge_word, verdict_of}
use Rattle.safety.specs.Reasons.{Reason, unopened, unreadable, wrong, Wrong, entry_lacks, annotation_lacks, runs_off, successor_lacks}
use Rattle.safety.proofs.ProgramLaws.{bytes_below}
use Rattle.safety.proofs.ReasonLaws.{reason}
use Rattle.infer.specs.Asked.{Inferred}
use Rattle.infer.proofs.NumberedLaws.{all_refusals, infer_indexes, infer_sweeps_few}

-- index and register have room
pub record Roomy (f : Finding) : Type 0 where
  pub index : f.index < 65536
  pub register : f.register < 256

module _ (s : List ℕ) (h : (k : ℕ) → get_or s k 0 < 256) where
  few : count_of s < 65536
  few = omega (arith, count_two s, h 6, h 7)

  wrong_roomy : {f : Finding} → Wrong (program_of s) f → Roomy f
  wrong_roomy (entry_lacks r k m) = record { index = omega arith; register = omega (arith, m.is) }
  wrong_roomy (annotation_lacks i r k l m) = let q : i < count_of s = l in record { index = omega (arith, few); register = omega (arith, m.is) }
  wrong_roomy (runs_off i z l m o) = let q : i < count_of s = l in record { index = omega (arith, few); register = omega arith }
  wrong_roomy (successor_lacks i j r k l m b n) = let q : i < count_of s = l in record { index = omega (arith, few); register = omega (arith, n.is) }

  reason_roomy : {f : Finding} → Reason s f → Roomy f
  reason_roomy (unopened r e) = record { index = omega arith; register = omega arith }
  reason_roomy (unreadable i g l e) = record { index = omega (arith, few); register = omega arith }
  reason_roomy (wrong f w) = wrong_roomy w

  pub roomy : {f : Finding} → verdict_of s ≡ refuses f → Roomy f
  roomy e = reason_roomy (reason s (bytes_below s h) e)

-- a refusal of a word names no register
unread_register : (words : List ℕ) (n : ℕ) → Refusals (λ (f : Finding). f.register < 256) (first (judge_word words) n)
unread_register words n = first_refusals (λ (f : Finding). f.register < 256) (judge_word words) (λ i. go i (read (eight words i))) n
  where
    go : (i : ℕ) (o : Outcome Refusal Instruction) → Refusals (λ (f : Finding). f.register < 256) (judge_reading i o)
    go i (gives x) = of_gives _ tt
    go i (refuses g) = of_refuses _ (plain g.number g.place i) (lit< tt)

module _ {v : ℕ} {words : List ℕ} {entry : Halves} {buffer : List ℕ} {o : Outcome Finding ℕ} {after : List ℕ} (made : Inferred v words entry buffer o after) where
  pub maker_roomy : {f : Finding} → o ≡ refuses f → Roomy f
  maker_roomy {f} e =
      let q = sym made.answers ∙ e in
      record {
        index = omega (arith, infer_indexes v words entry buffer f q);
        register = all_refusals v words entry buffer (λ (g : Finding). g.register < 256) (lit< tt) (lit< tt) (lit< tt)
            (λ fits. unread_register words (word_count (length words))) f q;
      }

  pub sweeps_small : entry.low < 2 ^ 64 → entry.high < 2 ^ 64 → {k : ℕ} → o ≡ gives k → k < 65536
  sweeps_small low high {k} e = let s = infer_sweeps_few v words entry buffer low high k (sym made.answers ∙ e) in omega (arith, s.1)
