-- Answers as single numbers.
use Rattle.std.specs.Prelude.{List, ℕ, ◌+◌, ◌*◌, ◌^◌, Option, None, Some}
use Rattle.bits.specs.Outcomes.{Outcome, gives, refuses}
use Rattle.record.specs.declared.answer.Refusal.{Refusal}
use Rattle.safety.specs.declared.verdict.Reported.{Reported}
use Rattle.safety.specs.declared.verdict.Reported.TheVariants.{Neither, Low, High}
use Rattle.safety.specs.declared.verdict.Finding.{Finding}
use Rattle.safety.specs.Verdict.{Judgement}
use Rattle.differences.specs.declared.line.Line.{Line}
use Rattle.differences.specs.declared.answer.Side.{Side}
use Rattle.differences.specs.declared.answer.Side.TheVariants.{First, Second}
use Rattle.differences.specs.declared.answer.Unread.{Unread}
use Rattle.differences.specs.Numbers.{line_numbers}

-- a refusal: number + 2^8 place
abbrev pub code : Refusal → ℕ
code f = f.number + 2 ^ 8 * f.place

-- 0, or the refusal
abbrev pub outcome_code : {A : Type 0} → Outcome Refusal A → ℕ
outcome_code (gives _) = 0
outcome_code (refuses f) = code f

-- a half: 0 neither, 1 low, 2 high
abbrev pub half_number : Reported → ℕ
half_number Neither = 0
half_number Low = 1
half_number High = 2

-- a finding: number + 2^8 place + 2^16 index + 2^32 register + 2^40 half
abbrev pub packed : Finding → ℕ
packed f = f.number + 2 ^ 8 * f.place + 2 ^ 16 * f.index + 2 ^ 32 * f.register + 2 ^ 40 * half_number f.half

-- 0 where the container is accepted, or the finding
abbrev pub verdict_code : Judgement → ℕ
verdict_code (gives _) = 0
verdict_code (refuses f) = packed f

-- the number of sweeps at bit 16, with number 0, or the finding
abbrev pub infer_code : Outcome Finding ℕ → ℕ
infer_code (gives k) = 2 ^ 16 * k
infer_code (refuses f) = packed f

-- a row, or 255 where there is none
abbrev pub row_code : Option ℕ → ℕ
row_code (Some row) = row
row_code None = 255

-- a container that cannot be compared: the finding, and 2^48 for the first of the two, 2^49 for the second
abbrev pub side_number : Side → ℕ
side_number First = 1
side_number Second = 2

abbrev pub unread_code : Unread → ℕ
unread_code u = packed u.finding + 2 ^ 48 * side_number u.side

-- 0 where a line is given, 255 where the list has fewer, or which container cannot be compared
abbrev pub line_code : Outcome Unread (Option Line) → ℕ
line_code (gives (Some l)) = 0
line_code (gives None) = 255
line_code (refuses u) = unread_code u

-- the three numbers of a line afterwards: those of the line that is given, else what they were
abbrev pub line_after : Outcome Unread (Option Line) → List ℕ → List ℕ
line_after (gives (Some l)) old = line_numbers l
line_after (gives None) old = old
line_after (refuses _) old = old

-- the number of lines at bit 16, with number 0, or which container cannot be compared
abbrev pub list_code : Outcome Unread ℕ → ℕ
list_code (gives n) = 2 ^ 16 * n
list_code (refuses u) = unread_code u
