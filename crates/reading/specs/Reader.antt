-- Reading a word, and the order of its refusals: 1, 2, 3, 4, 5, 6, 7 (01, Numbers given back).
use Rattle.std.specs.Prelude.{Bool, ◌&&◌, not, List, ℕ, ltb, leb, eqb, length}
use Rattle.bits.specs.Fields.{assigned}
use Rattle.bits.specs.Bytes.{little}
use Rattle.bits.specs.Sets.{has, lowest_from}
use Rattle.bits.specs.Outcomes.{Outcome, gives, require, ◌then◌}
use Rattle.rows.specs.Rows.{rows, row_of, row_count}
use Rattle.rows.specs.Layout.{slots, find}
use Rattle.record.specs.Instructions.{instruction_of}
use Rattle.record.specs.Legality.{judge}
use Rattle.record.specs.Answers.{refusal}
use Rattle.record.specs.declared.instruction.Instruction.{Instruction}
use Rattle.record.specs.declared.answer.Refusal.{Refusal}

-- bit b of the word is 1 and the row leaves it unassigned
abbrev pub stray : ℕ → ℕ → ℕ → Bool
stray k w b = has w b && not (assigned (slots (row_of k)) b)

-- the lowest such bit, or 64
unfoldable pub lowest_stray : ℕ → ℕ → ℕ
lowest_stray k w = lowest_from (stray k w) 64 0

-- what a word says, if k is the number of the row that it fits: 2 where none does, 3 for a stray bit, whose place is the lowest such bit
-- (02, Item 5), then 4 to 7
unfoldable pub read_row : ℕ → ℕ → Outcome Refusal Instruction
read_row k w =
    require (ltb k row_count) (refusal 2 0)
    then require (leb 64 (lowest_stray k w)) (refusal 3 (lowest_stray k w))
    then judge (row_of k) (instruction_of k w)
    then gives (instruction_of k w)

abbrev pub read_number : ℕ → Outcome Refusal Instruction
read_number w = read_row (find rows 0 w) w

-- what bytes say: 1 where they are not eight; else they are a word, the lowest byte first
unfoldable pub read : List ℕ → Outcome Refusal Instruction
read bs = require (eqb (length bs) 8) (refusal 1 0) then read_number (little bs)
