-- A verdict in words, for a person.
use Rattle.std.specs.Prelude.{List, [], ◌∷◌, ◌++◌, ℕ, ◌+◌, eqb, replicate}
use Rattle.bits.specs.Fields.{choose}
use Rattle.bits.specs.Outcomes.{gives, refuses}
use Rattle.rows.specs.Names.{ascii}
use Rattle.safety.specs.declared.verdict.Finding.{Finding}
use Rattle.safety.specs.Verdict.{Judgement}
use Rattle.text.specs.Text.{space, line_feed, number_text}
use Rattle.verdictline.specs.VerdictLine.{half_letter}

-- what is wrong with the instruction that a refusal names (01, Numbers given back: 20 to 23; the last case is 2 to 7); after a register stands
-- the letter of its half, if one is told (02, Item 7)
unfoldable pub why_text : Finding → List ℕ
why_text f =
    choose (eqb f.number 20) (ascii "reads r" ++ number_text 10 2 f.register ++ half_letter f.half ++ ascii ", which its note does not name")
    (choose (eqb f.number 21) (ascii "can go on to a place outside the program")
    (choose (eqb f.number 22)
    (ascii "can go on to an instruction whose note names r" ++ number_text 10 2 f.register ++ half_letter f.half ++ ascii ", which by its own note it does not leave filled")
    (choose (eqb f.number 23)
    (ascii "has a note that names r" ++ number_text 10 2 f.register ++ half_letter f.half ++ ascii ", which the parcel does not say is filled before the start")
    (ascii "is no legal instruction, so the program was not judged"))))

-- the line below that instruction; none where the verdict is not a refusal
unfoldable pub fault_line : Judgement → List ℕ
fault_line (gives _) = []
fault_line (refuses f) = replicate 25 space ++ ascii "^ " ++ why_text f ++ (line_feed ∷ [])

abbrev pub fault_index : Judgement → ℕ
fault_index (gives _) = 0
fault_index (refuses f) = f.index

abbrev pub instruction_fault : Finding → List ℕ
instruction_fault f = ascii "instruction " ++ number_text 10 4 f.index ++ ascii " " ++ why_text f

-- what a refusal is about (01, Numbers given back: 10 to 13 of opening; all others name an instruction)
unfoldable pub refusal_text : Finding → List ℕ
refusal_text f =
    choose (eqb f.number 10) (ascii "this is no parcel, since it does not begin with VSP")
    (choose (eqb f.number 11) (ascii "the version of the parcel is neither 1 nor 2")
    (choose (eqb f.number 12) (ascii "the count of instructions or the length is wrong")
    (choose (eqb f.number 13) (ascii "byte 5 of the parcel is not 0")
    (instruction_fault f))))

-- the verdict, which is the last line
unfoldable pub verdict_text : Judgement → List ℕ
verdict_text (gives _) =
    ascii "ACCEPTED: whichever way the program goes, it reads no register that is not filled, if the display fills what the parcel says."
    ++ (line_feed ∷ [])
verdict_text (refuses f) = ascii "REFUSED with " ++ number_text 10 3 f.number ++ ascii ": " ++ refusal_text f ++ ascii "." ++ (line_feed ∷ [])

-- no such text has more bytes
abbrev pub longest_why : ℕ
longest_why = 97

abbrev pub longest_fault : ℕ
longest_fault = 25 + 2 + longest_why + 1

abbrev pub longest_refusal : ℕ
longest_refusal = 12 + 4 + 1 + longest_why

abbrev pub longest_verdict : ℕ
longest_verdict = 134
