-- What the maker of annotations (the paper's notes) answers, for any version, words, entry set and buffer, and what the buffer holds
-- afterwards (02, Items 1 and 7).
use Rattle.std.specs.Prelude.{List, [], ℕ, Result, length}
use Rattle.bits.specs.declared.halves.Halves.{Halves}
use Rattle.bits.specs.Outcomes.{Outcome, outcome, gives, refuses, passes, require, ◌then◌, kept_or, first}
use Rattle.container.specs.Formats.{known}
use Rattle.packing.specs.Packing.{word_count, fitting, taken, container_bytes}
use Rattle.safety.specs.declared.verdict.Finding.{Finding}
use Rattle.safety.specs.Program.{Program, program_in}
use Rattle.safety.specs.Verdict.{Judgement, judge_word, verdict_of, plain}
use Rattle.sweeps.specs.Sweeps.{sweeps, proposal}

-- the outcome that each answer stands for: the number of sweeps, or a refusal with a check's fields
abbrev pub inference_outcome : Result ℕ Finding → Outcome Finding ℕ
inference_outcome a = outcome a

-- the program of a version, some words and an entry set, of which version 1 takes the low halves for both; its annotations are empty and
-- play no part
abbrev pub unannotated : ℕ → List ℕ → Halves → Program
unannotated v words entry = program_in v words [] (word_count (length words)) (taken v entry)

-- the annotations that are proposed for it
abbrev pub proposed : ℕ → List ℕ → Halves → List ℕ
proposed v words entry = proposal (unannotated v words entry)

-- refusal 24: no annotations at all would be accepted
abbrev pub none_acceptable : Finding
none_acceptable = plain 24 0 0

-- what the check says of a proposal; whatever it finds is told as 24
abbrev pub pass_on : Judgement → Judgement
pass_on (gives _) = passes
pass_on (refuses _) = refuses none_acceptable

-- the answer: how many sweeps there were, or the first refusal
unfoldable pub infer_outcome : ℕ → List ℕ → Halves → List ℕ → Outcome Finding ℕ
infer_outcome v words entry buffer =
    -- no version that there is
    require (known v) (plain 11 0 0)
    -- the words are no 1 to 2048 whole ones, or the buffer hasn't the length of as many annotations of the version
    then require (fitting v (length words) (length buffer)) (plain 12 0 0)
    -- the lowest word that does not read, with its own number and place
    then first (judge_word words) (word_count (length words))
    -- the proposal goes through the check
    then pass_on (verdict_of (container_bytes v entry words (proposed v words entry)))
    then gives (sweeps (unannotated v words entry))

-- the buffer afterwards: the annotations that are proposed, or on a refusal what it held
unfoldable pub infer_buffer : ℕ → List ℕ → Halves → List ℕ → List ℕ
infer_buffer v words entry buffer = kept_or (infer_outcome v words entry buffer) (proposed v words entry) buffer
