-- The lines for the words of a program: whether a branch leads there, the index, the word, what stands for it, and the registers of its note.
use Rattle.std.specs.Prelude.{Bool, false, ◌||◌, List, [], ◌∷◌, ◌++◌, ℕ, zero, suc, ◌+◌, ◌-◌, max, eqb, length, replicate}
use Rattle.bits.specs.Bytes.{little}
use Rattle.bits.specs.Fields.{choose}
use Rattle.bits.specs.Outcomes.{Outcome, gives, refuses}
use Rattle.rows.specs.Names.{ascii}
use Rattle.record.specs.declared.instruction.Instruction.{Instruction}
use Rattle.record.specs.declared.answer.Refusal.{Refusal}
use Rattle.reading.specs.Reader.{read_number}
use Rattle.bits.specs.declared.halves.Halves.{Halves}
use Rattle.container.specs.Container.{eight}
use Rattle.safety.specs.Program.{annotation_at}
use Rattle.text.specs.Text.{space, line_feed, decimal, hex}
use Rattle.registertext.specs.Registers.{registers_text, longest_registers}
use Rattle.wordtext.specs.Columns.{jumps, lands, column_of, longest_column}

-- the word at index i of some words
abbrev pub number_in : List ℕ → ℕ → ℕ
number_in l i = little (eight l i)

abbrev pub column_at : List ℕ → ℕ → ℕ → List ℕ
column_at words n i = column_of n i (number_in words i)

-- the width of the column in which they stand: that of the longest of the first k, and at least that of the title
unfoldable pub widest : List ℕ → ℕ → ℕ → ℕ
widest words n zero = length (ascii "instruction")
widest words n (suc k) = max (widest words n k) (length (column_at words n k))

-- a text filled with spaces up to a width
abbrev pub padded : ℕ → List ℕ → List ℕ
padded width t = t ++ replicate (width - length t) space

-- where instruction i of n branches to; n where it is no such branch, or leads outside
abbrev pub leads_in : ℕ → ℕ → Outcome Refusal Instruction → ℕ
leads_in n i (gives x) = choose (jumps x) (lands n i x) n
leads_in n i (refuses _) = n

abbrev pub leads_to : List ℕ → ℕ → ℕ → ℕ
leads_to words n i = leads_in n i (read_number (number_in words i))

-- one of the first k instructions branches to index j
unfoldable pub targeted : List ℕ → ℕ → ℕ → ℕ → Bool
targeted words n zero j = false
targeted words n (suc k) j = targeted words n k j || eqb (leads_to words n k) j

abbrev pub mark_text : Bool → List ℕ
mark_text t = choose t (ascii ">") (ascii " ")

-- the line of the word w at index i of n, with a mark or none, and with its note; the column for its text has a width
unfoldable pub line_text : Bool → ℕ → ℕ → ℕ → ℕ → Halves → List ℕ
line_text mark n width i w note =
    mark_text mark
    ++ decimal 4 i
    ++ ascii "  "
    ++ hex 16 w
    ++ ascii "  "
    ++ padded width (column_of n i w)
    ++ ascii "  "
    ++ registers_text note
    ++ (line_feed ∷ [])

-- the line of instruction i of n, with the note that a version has there
abbrev pub line : ℕ → List ℕ → List ℕ → ℕ → ℕ → ℕ → List ℕ
line v words notes n width i = line_text (targeted words n n i) n width i (number_in words i) (annotation_at v notes i)

-- the lines of the first k instructions, with one more text below the one at index `at`
unfoldable pub lines : ℕ → List ℕ → List ℕ → ℕ → ℕ → ℕ → List ℕ → ℕ → List ℕ
lines v words notes n width at fault zero = []
lines v words notes n width at fault (suc k) =
    lines v words notes n width at fault k ++ (line v words notes n width k ++ choose (eqb k at) fault [])

-- the line above them, which names the columns
unfoldable pub title : ℕ → List ℕ
title width = ascii "       word              " ++ padded width (ascii "instruction") ++ ascii "  note" ++ (line_feed ∷ [])

-- no line has more bytes
abbrev pub longest_line : ℕ
longest_line = 1 + 4 + 2 + 16 + 2 + longest_column + 2 + longest_registers + 1
