-- The check passes a refusal of reading on unchanged. Assumes nothing.
use mathlib.Core.Path.{◌≡◌, refl, sym, ap, ◌∙◌, subst}
use mathlib.Core.List.{List}
use mathlib.Core.Logic.{⊎_elim}
use Prim.Native.Nat.{ℕ, ◌<◌}
use native.Mathlib.Omega.{arith}
use Rattle.bits.proofs.FirstLaws.{either, first_of, first_to, first_stop, first_refused}
use Rattle.bits.specs.Outcomes.{Outcome, gives, refuses, passes, ◌then◌, first}
use Rattle.bits.proofs.OutcomeLaws.{never, told, then_passed, then_refused}
use Rattle.record.specs.declared.instruction.Instruction.{Instruction}
use Rattle.record.specs.declared.answer.Refusal.{Refusal}
use Rattle.reading.specs.Reader.{read}
use Rattle.reading.proofs.StrayNamed.{bytes_stray}
use Rattle.container.specs.Container.{count_of, words_of, eight}
use Rattle.container.specs.Opening.{open_outcome, Opens}
use Rattle.container.proofs.OpeningLaws.{length_words}
use Rattle.safety.specs.declared.verdict.Finding.{Finding}
use Rattle.safety.specs.Program.{program_of, WellFormed}
use Rattle.safety.specs.Verdict.{Judgement, judge_opening, judge_reading, judge_word, judge_program, verdict_of, plain}
use Rattle.safety.specs.Passed.{ReadBefore, Unreadable, PassedOn, PassesOn}
use Rattle.safety.proofs.NumberedLaws.{opened_numbers, program_numbers, whole_words_numbers}
use Rattle.safety.proofs.Demand3.{word_of}

-- the first refusal among some words
pub words_passed_on : (words : List ℕ) (n : ℕ) {f : Finding} → first (judge_word words) n ≡ refuses f → PassedOn words n f
words_passed_on words n {f} e =
    let w = first_refused (judge_word words) n e in
    go w.0 w.1 w.3 (read (eight words w.0)) refl w.2
  where
    go : (i : ℕ) → i < n → first (judge_word words) i ≡ passes → (o : Outcome Refusal Instruction) → read (eight words i) ≡ o
        → judge_reading i o ≡ refuses f → PassedOn words n f
    go i l h (gives x) p q = never (sym q)
    go i l h (refuses g) p q =
        subst (PassedOn words n) (told q)
        (record {
          is = l;
          before = λ k m. word_of words k (first_of (judge_word words) i h k m);
          refused = p;
          register = refl;
          half = refl;
          stray = λ d. (bytes_stray (eight words i) g p d).1;
        })

module _ (s : List ℕ) where
  -- opening, the words, the program
  pub of_words : (f : Finding) → verdict_of s ≡ refuses f → Unreadable f → PassedOn (words_of s) (count_of s) f
  unfolding verdict_of
  of_words f e u =
      let words = first (judge_word (words_of s)) (count_of s) in
      ⊎_elim (λ q. absurd (omega (arith, u.1, (opened_numbers s f q).0)))
      (λ q. ⊎_elim (λ z. words_passed_on (words_of s) (count_of s) z) (λ z. absurd (omega (arith, u.1, (program_numbers (program_of s) f z).0)))
      (either words (judge_program (program_of s)) q))
      (either (judge_opening (open_outcome s)) (words then judge_program (program_of s)) e)

  module _ (o : Opens s) where
    -- what opens and does not read
    words_told : {f : Finding} → first (judge_word (words_of s)) (count_of s) ≡ refuses f → verdict_of s ≡ refuses f
    unfolding verdict_of
    words_told e = then_passed _ (ap judge_opening o) ∙ then_refused _ e

    lowest_told : (i : ℕ) → i < count_of s → ReadBefore (words_of s) i → (f : Refusal) → read (eight (words_of s) i) ≡ refuses f
        → verdict_of s ≡ refuses (plain f.number f.place i)
    lowest_told i l h f e =
        words_told (first_stop (judge_word (words_of s)) i (count_of s) l (first_to (judge_word (words_of s)) i (λ k m. ap (judge_reading k) (h k m).1)) (ap (judge_reading i) e))

    among_read : (¬ WellFormed s) → (f : Finding) → verdict_of s ≡ refuses f → Unreadable f
    among_read n f e = go (first (judge_word (words_of s)) (count_of s)) refl
      where
        go : (a : Judgement) → first (judge_word (words_of s)) (count_of s) ≡ a → Unreadable f
        go (gives tt) q = absurd (n (record { opens = o; reads = λ i l. word_of (words_of s) i (first_of (judge_word (words_of s)) (count_of s) q i l) }))
        go (refuses g) q = whole_words_numbers (words_of s) (count_of s) (length_words s o) f (q ∙ sym (words_told q) ∙ e)

pub passes_on : PassesOn verdict_of
passes_on = record { unreadable = lowest_told; numbered = among_read; passed = of_words }
