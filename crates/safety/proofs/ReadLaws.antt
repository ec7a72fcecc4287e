-- A container passes opening and reading exactly when it is well-formed; else their refusal is the verdict. Assumes nothing.
use mathlib.Core.Path.{◌≡◌, sym, ap, ◌∙◌}
use mathlib.Core.List.{List}
use Prim.Native.Nat.{ℕ}
use Rattle.bits.proofs.FirstLaws.{both, neither, then_assoc, first_of, first_to}
use Rattle.bits.specs.Outcomes.{refuses, passes, ◌then◌, first}
use Rattle.bits.proofs.OutcomeLaws.{then_refused}
use Rattle.container.specs.Container.{count_of, words_of}
use Rattle.container.specs.Opening.{open_outcome}
use Rattle.safety.specs.declared.verdict.Finding.{Finding}
use Rattle.safety.specs.Program.{program_of, WellFormed}
use Rattle.safety.specs.Verdict.{judge_opening, judge_reading, judge_word, judge_program, verdict_of, all_read}
use Rattle.safety.proofs.Demand3.{opening_of, word_of}

module _ (s : List ℕ) where
  pub formed : all_read s ≡ passes → WellFormed s
  unfolding all_read
  formed e =
      let b = both {a = judge_opening (open_outcome s)} {b = first (judge_word (words_of s)) (count_of s)} e in
      record {
        opens = opening_of s b.0;
        reads = λ i l. word_of (words_of s) i (first_of (judge_word (words_of s)) (count_of s) b.1 i l);
      }

  pub all_of : WellFormed s → all_read s ≡ passes
  unfolding all_read
  all_of f = neither (ap judge_opening f.opens) (first_to (judge_word (words_of s)) (count_of s) (λ i l. ap (judge_reading i) (f.reads i l).1))

  -- the verdict goes on where all words are read
  pub goes_on : verdict_of s ≡ (all_read s then judge_program (program_of s))
  unfolding verdict_of all_read
  goes_on = sym (then_assoc (judge_opening (open_outcome s)) (first (judge_word (words_of s)) (count_of s)) (judge_program (program_of s)))

  pub refused_first : {f : Finding} → all_read s ≡ refuses f → verdict_of s ≡ refuses f
  refused_first e = goes_on ∙ then_refused (judge_program (program_of s)) e
