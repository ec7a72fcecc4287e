-- The numbers of refusals tell whether all words were read: those of opening and reading are below 20, the others are not. Assumes nothing.
use mathlib.Core.Path.{◌≡◌, sym, ◌∙◌}
use mathlib.Core.List.{List}
use Prim.Native.Nat.{ℕ, ◌<◌, ◌≤◌}
use native.Mathlib.Omega.{arith}
use lib.Dec.{T}
use lib.Pow.{are_bytes}
use Rattle.bits.proofs.FirstLaws.{both, first_of}
use Rattle.bits.specs.Outcomes.{refuses, passes, ◌then◌, first}
use Rattle.bits.proofs.OutcomeLaws.{then_passed, Refusals, of_then, weaker}
use Rattle.container.specs.Container.{count_of, words_of}
use Rattle.container.specs.Opening.{open_outcome}
use Rattle.safety.specs.declared.verdict.Finding.{Finding}
use Rattle.safety.specs.Program.{program_of}
use Rattle.safety.specs.Verdict.{judge_opening, judge_word, judge_program, verdict_of, all_read}
use Rattle.safety.proofs.NumberedLaws.{ToldBetween, opened_numbers, words_numbers, program_numbers}

abbrev Early : Finding → Type 0
Early f = f.number < 20

-- a refusal before all words are read
pub early : (s : List ℕ) → Refusals Early (all_read s)
unfolding all_read
early s =
    of_then Early (judge_opening (open_outcome s)) (first (judge_word (words_of s)) (count_of s))
    (weaker (λ (f : Finding) (n : ToldBetween 10 13 f). omega (arith, n.1)) (opened_numbers s))
    (weaker (λ (f : Finding) (n : ToldBetween 1 7 f). omega (arith, n.1)) (words_numbers (words_of s) (count_of s)))

module _ (s : List ℕ) (all : all_read s ≡ passes) where
  parts : (judge_opening (open_outcome s) ≡ passes) × (first (judge_word (words_of s)) (count_of s) ≡ passes)
  unfolding all_read
  parts = both {a = judge_opening (open_outcome s)} {b = first (judge_word (words_of s)) (count_of s)} all

  pub opens : judge_opening (open_outcome s) ≡ passes
  opens = parts.0

  pub reads : (i : ℕ) → i < count_of s → judge_word (words_of s) i ≡ passes
  reads = first_of (judge_word (words_of s)) (count_of s) parts.1

  -- a refusal after all words are read
  pub late : T (are_bytes s) → {f : Finding} → verdict_of s ≡ refuses f → 20 ≤ f.number
  unfolding verdict_of
  late _ {f} e =
      let judged = judge_program (program_of s) in
      let rest = first (judge_word (words_of s)) (count_of s) then judged in
      (program_numbers (program_of s) f (sym (then_passed rest parts.0 ∙ then_passed judged parts.1) ∙ e)).0
