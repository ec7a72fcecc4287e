-- What a comparison answers (02, Item 4).
use Rattle.std.specs.Prelude.{List, ℕ, length, Option, Result}
use Rattle.bits.specs.Lists.{kth}
use Rattle.bits.specs.Outcomes.{Outcome, outcome, gives, refuses, passes, ◌then◌, kept_or}
use Rattle.safety.specs.Verdict.{Judgement, all_read}
use Rattle.differences.specs.declared.answer.Side.{Side}
use Rattle.differences.specs.declared.answer.Side.TheVariants.{First, Second}
use Rattle.differences.specs.declared.answer.Unread.{Unread}
use Rattle.differences.specs.declared.line.Line.{Line}
use Rattle.differences.specs.Differences.{differences}
use Rattle.differences.specs.Numbers.{front_filled}

-- the outcome that each answer stands for: the line asked for, or none where the list has fewer; or which one cannot be compared
abbrev pub compared_outcome : Result (Option Line) Unread → Outcome Unread (Option Line)
compared_outcome r = outcome r

abbrev pub listed_outcome : Result ℕ Unread → Outcome Unread ℕ
listed_outcome r = outcome r

-- nothing stands against comparing them, or which one cannot be compared
abbrev pub ready_outcome : Result (Unit {0}) Unread → Outcome Unread (Unit {0})
ready_outcome r = outcome r

-- a refusal of opening or reading, and which container it is of
abbrev pub of_side : Side → Judgement → Outcome Unread (Unit {0})
of_side s (gives _) = passes
of_side s (refuses f) = refuses (record { side = s; finding = f })

-- the container of a side
abbrev pub side_of : List ℕ → List ℕ → Side → List ℕ
side_of a b First = a
side_of a b Second = b

-- both open and read, or the first refusal of the first, or else that of the second
unfoldable pub both_read : List ℕ → List ℕ → Outcome Unread (Unit {0})
both_read a b = of_side First (all_read a) then of_side Second (all_read b)

-- line k of the list, from 0
unfoldable pub line_outcome : List ℕ → List ℕ → ℕ → Outcome Unread (Option Line)
line_outcome a b k = both_read a b then gives (kth (differences a b) k)

-- the whole list: how many lines it has,
unfoldable pub list_outcome : List ℕ → List ℕ → Outcome Unread ℕ
list_outcome a b = both_read a b then gives (length (differences a b))

-- and what a buffer that held `out`, with room for any list, holds afterwards: the lines at its front, or on a refusal what it held
unfoldable pub list_buffer : List ℕ → List ℕ → List ℕ → List ℕ
list_buffer a b out = kept_or (list_outcome a b) (front_filled (differences a b) out) out
