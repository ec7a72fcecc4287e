-- What stands for a word: the text of its instruction, and where that branches to; or the number of the refusal, and why the word does not read.
use Rattle.std.specs.Prelude.{Bool, ◌&&◌, not, List, [], ◌∷◌, ◌++◌, ℕ, ◌+◌, eqb, ltb, pos, ◌+ℤ◌}
use Rattle.bits.specs.Fields.{choose}
use Rattle.bits.specs.Outcomes.{Outcome, gives, refuses}
use Rattle.rows.specs.Names.{ascii}
use Rattle.record.specs.declared.instruction.Instruction.{Instruction}
use Rattle.record.specs.declared.answer.Refusal.{Refusal}
use Rattle.record.specs.Registers.{ends, branches}
use Rattle.reading.specs.Reader.{read_number}
use Rattle.safety.specs.Program.{landing}
use Rattle.text.specs.Text.{decimal, number_text}
use Rattle.disasm.specs.Assembly.{instruction_text, longest_text}
use Rattle.leftout.specs.LeftOut.{left_out}
use Rattle.lacks.specs.Lacks.{stray_text}

-- a branch that can be taken: with flow `end` nothing follows (01, How registers are held)
abbrev pub jumps : Instruction → Bool
jumps x = branches x && not (ends x)

-- where instruction i of n branches to; n where that is outside
abbrev pub lands : ℕ → ℕ → Instruction → ℕ
lands n i x = landing n (pos (i + 1) +ℤ x.offset)

abbrev pub place_text : ℕ → ℕ → List ℕ
place_text n j = choose (ltb j n) (decimal 4 j) (ascii "outside")

unfoldable pub arrow_text : ℕ → ℕ → Instruction → List ℕ
arrow_text n i x = choose (jumps x) (ascii " -> " ++ place_text n (lands n i x)) []

-- the name that 002 has for a word which no row fits, if there is one
abbrev pub omitted_text : List ℕ → List ℕ
omitted_text [] = []
omitted_text (b ∷ bs) = ascii "; " ++ (b ∷ bs) ++ ascii ", left out by the scope"

-- why the word w is refused with a number at a place (01, Numbers given back: 2 to 6; the last case is 7)
unfoldable pub reason_text : ℕ → ℕ → ℕ → List ℕ
reason_text w n p =
    choose (eqb n 2) (ascii "no row fits" ++ omitted_text (left_out w))
    (choose (eqb n 3) (stray_text w p)
    (choose (eqb n 4) (ascii "its flow is reserved")
    (choose (eqb n 5) (ascii "neither half of its destination is written")
    (choose (eqb n 6) (ascii "illegal modifier at bit " ++ number_text 10 3 p)
    (ascii "source " ++ number_text 10 3 p ++ ascii " is a reserved constant")))))

-- no reason has more bytes
abbrev pub longest_reason : ℕ
longest_reason = 80

abbrev pub column_in : ℕ → ℕ → ℕ → Outcome Refusal Instruction → List ℕ
column_in n i w (gives x) = instruction_text x ++ arrow_text n i x
column_in n i w (refuses f) = ascii "-- " ++ number_text 10 3 f.number ++ ascii ": " ++ reason_text w f.number f.place

-- the word w at index i of n
unfoldable pub column_of : ℕ → ℕ → ℕ → List ℕ
column_of n i w = column_in n i w (read_number w)

-- no word has more bytes
abbrev pub longest_column : ℕ
longest_column = longest_text + 11
