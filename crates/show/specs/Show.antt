-- What `show` writes for a parcel's bytes: where they open, the parcel in three lines and the program line by line; and the verdict in words.
use Rattle.std.specs.Prelude.{List, [], ◌∷◌, ◌++◌, ℕ, ◌+◌, ◌*◌, eqb}
use Rattle.container.specs.Formats.{most_instructions}
use Rattle.bits.specs.Fields.{choose}
use Rattle.bits.specs.Outcomes.{Outcome, gives, refuses}
use Rattle.bits.specs.declared.halves.Halves.{Halves}
use Rattle.rows.specs.Names.{ascii}
use Rattle.container.specs.declared.header.Header.{Header}
use Rattle.container.specs.Container.{words_of, annotations_of}
use Rattle.container.specs.Opening.{Rejection, open_outcome}
use Rattle.safety.specs.declared.verdict.Reported.TheVariants.{Neither}
use Rattle.safety.specs.Verdict.{Judgement, finding, verdict_of}
use Rattle.text.specs.Text.{line_feed, number_text}
use Rattle.registertext.specs.Registers.{registers_text, longest_registers}
use Rattle.wordtext.specs.Columns.{longest_column}
use Rattle.showlines.specs.Lines.{widest, title, lines, longest_line}
use Rattle.verdicttext.specs.Words.{fault_line, fault_index, verdict_text, longest_fault, longest_verdict}

-- the version, how many instructions there are, and the entry set, which is the supplier's claim
unfoldable pub head : ℕ → ℕ → Halves → List ℕ
head v n entry =
    ascii "parcel version: "
    ++ number_text 10 5 v
    ++ (line_feed ∷ [])
    ++ ascii "instructions: "
    ++ number_text 10 4 n
    ++ (line_feed ∷ [])
    ++ ascii "filled before the start, by the parcel's own claim: "
    ++ registers_text entry
    ++ (line_feed ∷ [])
    ++ (line_feed ∷ [])

-- the program of n words and notes of a version, with a verdict on it
unfoldable pub program_text : ℕ → List ℕ → List ℕ → ℕ → Judgement → List ℕ
program_text v words notes n judged =
    title (widest words n n) ++ lines v words notes n (widest words n n) (fault_index judged) (fault_line judged) n ++ (line_feed ∷ [])

-- a verdict as it is told of a version: in version 1 a set stands for both halves, so no half is named
abbrev pub told_of : ℕ → Judgement → Judgement
told_of v (gives x) = gives x
told_of v (refuses f) = refuses (finding f.number f.place f.index f.register (choose (eqb v 1) Neither f.half))

-- what is shown where a parcel opens, and where it does not
abbrev pub shown_of : List ℕ → Judgement → Outcome Rejection Header → List ℕ
shown_of s judged (gives h) =
    head h.version h.count h.entry
    ++ program_text h.version (words_of s) (annotations_of s) h.count (told_of h.version judged)
    ++ verdict_text (told_of h.version judged)
shown_of s judged (refuses _) = verdict_text judged

unfoldable pub shown : List ℕ → List ℕ
shown s = shown_of s (verdict_of s) (open_outcome s)

-- no such text has more bytes
abbrev pub longest_head : ℕ
longest_head = 16 + 5 + 1 + 14 + 4 + 1 + 52 + longest_registers + 2

abbrev pub longest_title : ℕ
longest_title = 25 + longest_column + 6 + 1

abbrev pub longest_opened : ℕ
longest_opened = longest_head + longest_title + (longest_line + longest_fault) * most_instructions + 1

abbrev pub longest_shown : ℕ
longest_shown = longest_opened + longest_verdict
