-- The lazy check that demand 3 must exclude (01, What no lazy program may pass): it judges the first instruction and no other.
use Rattle.std.specs.Prelude.{◌≡◌, List, ℕ}
use Rattle.bits.specs.Outcomes.{passes, ◌then◌, first}
use Rattle.container.specs.Container.{count_of, words_of}
use Rattle.container.specs.Opening.{open_outcome}
use Rattle.safety.specs.Program.{program_of}
use Rattle.safety.specs.Verdict.{Judgement, none_missing, judge_opening, judge_word, judge_index}

-- the verdict with only instruction 0 judged
unfoldable pub first_only : List ℕ → Judgement
first_only s =
    judge_opening (open_outcome s)
    then first (judge_word (words_of s)) (count_of s)
    then none_missing 23 0 ((program_of s).annotation 0) (program_of s).entry
    then judge_index (program_of s) 0

-- a check that accepts whatever that one accepts
abbrev pub WavesThrough : (List ℕ → Judgement) → Type 0
WavesThrough check = (s : List ℕ) → first_only s ≡ passes → check s ≡ passes
