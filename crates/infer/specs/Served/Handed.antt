-- What sweeping gives, and what becomes of a proposal.
use Rattle.std.specs.Prelude.{◌≡◌, true, List, [], ℕ, ◌<◌}
use Rattle.bits.specs.declared.halves.Halves.{Halves}
use Rattle.bits.specs.Outcomes.{Outcome, gives, ◌then◌, kept_or, first}
use Rattle.container.specs.Formats.{known}
use Rattle.packing.specs.Packing.{taken}
use Rattle.safety.specs.declared.verdict.Finding.{Finding}
use Rattle.safety.specs.Program.{program_in, Worded}
use Rattle.safety.specs.Verdict.{Judgement, judge_word, judge_program}
use Rattle.infer.specs.Inference.{pass_on}
use Rattle.sweeps.specs.Sweeps.{sweeps, proposal}

-- what sweeping asks: a version that there is, an entry set that it can write, and 1 to 2048 words
pub record Ready (v : ℕ) (words : List ℕ) (n : ℕ) (entry : Halves) : Type 0 where
  pub is_known : known v ≡ true
  pub entered : taken v entry ≡ entry
  pub worded : Worded words n
  pub some : 0 < n

-- what sweeping n words gives: the first refusal of a word, or the number of sweeps, and then the proposal in the buffer
pub record Swept (v : ℕ) (words : List ℕ) (n : ℕ) (entry : Halves) (answer : Outcome Finding ℕ) (out : List ℕ) : Type 0 where
  pub answers : answer ≡ (first (judge_word words) n then gives (sweeps (program_in v words [] n entry)))
  pub leaves : (k : ℕ) → answer ≡ gives k → out ≡ proposal (program_in v words [] n entry)

-- what becomes of a proposal that took k sweeps: it is handed over where the check of words and annotations accepts it, and else refused
abbrev pub handed : Judgement → ℕ → Outcome Finding ℕ
handed v k = pass_on v then gives k

pub record Handed (v : ℕ) (words : List ℕ) (n : ℕ) (entry : Halves) (offer : List ℕ) (k : ℕ) (buffer : List ℕ) (answer : Outcome Finding ℕ) (after : List ℕ) : Type 0 where
  pub answers : answer ≡ handed (first (judge_word words) n then judge_program (program_in v words offer n entry)) k
  pub leaves : after ≡ kept_or answer offer buffer
