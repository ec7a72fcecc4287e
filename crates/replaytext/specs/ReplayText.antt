-- A replay's answer and the registers after a step as lines of text, in ASCII (02, Item 8).
use Rattle.std.specs.Prelude.{List, [], ◌∷◌, ◌++◌, ℕ, ◌+◌, ◌*◌, min, eqb, get_or}
use Rattle.bits.specs.Fields.{choose}
use Rattle.bits.specs.Outcomes.{Outcome, gives, refuses}
use Rattle.rows.specs.Names.{ascii}
use Rattle.safety.specs.declared.verdict.Finding.{Finding}
use Rattle.trace.specs.Trace.{recorded_steps, recorded}
use Rattle.run.specs.declared.Stop.{Stop}
use Rattle.run.specs.declared.Stop.TheVariants.{Differs, Ended, Limit}
use Rattle.text.specs.Text.{line_feed, number_text, hex}
use Rattle.verdictline.specs.VerdictLine.{verdict_line}

-- a number in decimal digits without zeros in front; none of 32 bits has more than 10
abbrev pub plain : ℕ → List ℕ
plain n = number_text 10 10 n

-- the value of a register: its 32 bits in hexadecimal digits
abbrev pub value_text : ℕ → List ℕ
value_text v = hex 8 v

-- `1 step`, else `N steps`
abbrev pub step_word : ℕ → List ℕ
step_word n = choose (eqb n 1) (ascii " step") (ascii " steps")

-- how many of n steps were compared: those that the trace has (`steps past the trace's end aren't compared`)
abbrev pub compared : ℕ → List ℕ → ℕ
compared n trace = min n (recorded_steps trace)

-- the run stopped at `end` or at the limit, after n steps; how many of them were compared
unfoldable pub stopped_line : List ℕ → ℕ → List ℕ → List ℕ
stopped_line why n trace = (why ++ plain n ++ step_word n) ++ (ascii ", " ++ plain (compared n trace) ++ (ascii " compared" ++ (line_feed ∷ [])))

-- the run stopped at the first difference (`step from 0, lowest register`): the step, the register, its value and what the trace has for it
unfoldable pub differs_line : ℕ → ℕ → List ℕ → List ℕ → List ℕ
differs_line k r registers trace =
    (ascii "DIFFERS at step " ++ plain k ++ ascii ", r")
    ++ (plain r ++ ascii ": ")
    ++ (value_text (get_or registers r 0) ++ ascii " replayed, ")
    ++ (value_text (recorded trace k r) ++ (ascii " recorded" ++ (line_feed ∷ [])))

-- the line of an answer (`the answer says which`), from the registers that are left and the trace; a refusal is told as the check tells its own
unfoldable pub answer_line : Outcome Finding Stop → List ℕ → List ℕ → List ℕ
unfolding stopped_line differs_line
answer_line (gives (Differs k r)) registers trace = differs_line k r registers trace
answer_line (gives (Ended n)) registers trace = stopped_line (ascii "END after ") n trace
answer_line (gives (Limit n)) registers trace = stopped_line (ascii "LIMIT after ") n trace
answer_line (refuses f) registers trace = verdict_line (refuses f)

-- the values of registers one after the other, and the line of them
unfoldable pub values : List ℕ → List ℕ
values [] = []
values (v ∷ registers) = value_text v ++ values registers

unfoldable pub register_row : List ℕ → List ℕ
unfolding values
register_row registers = values registers ++ (line_feed ∷ [])

-- the most bytes that an answer has, and how many the line of the 64 registers has
abbrev pub longest_answer : ℕ
longest_answer = 16 + 10 + 3 + 10 + 2 + 8 + 11 + 8 + 9 + 1

abbrev pub row_length : ℕ
row_length = 8 * 64 + 1
