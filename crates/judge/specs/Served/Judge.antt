-- What judging a word finds.
use Rattle.std.specs.Prelude.{◌≡◌, [], ◌∷◌, ℕ, ◌+◌, ◌*◌, ◌%◌, ◌^◌, ◌<◌, Err, Ok, Result}
use Rattle.std.specs.Int.Bits.{bit_and}
use Rattle.bits.specs.Fields.{bits, choose}
use Rattle.bits.specs.Outcomes.{gives, refuses}
use Rattle.rows.specs.Sources.{source_legal}
use Rattle.rows.specs.Rows.{rows, row_of, row_count}
use Rattle.rows.specs.Layout.{find, register_place, mask_place}
use Rattle.rows.specs.Served.Table.{shape, widths}
use Rattle.record.specs.Instructions.{number_in, instruction_of}
use Rattle.record.specs.Lists.{sources_of}
use Rattle.record.specs.Answers.{refusal}
use Rattle.record.specs.declared.answer.Refusal.{Refusal}
use Rattle.record.specs.declared.instruction.Sources.{Sources}
use Rattle.lookup.specs.Served.Lines.{line_of}
use Rattle.lookup.specs.declared.Line.{Line}
use Rattle.reading.specs.Reader.{read_number}
use Rattle.judge.specs.declared.Fit.{Fit}

-- a word that is refused
abbrev pub refused : ℕ → ℕ → Result Fit Refusal
refused n p = Err (refusal n p)

-- l is the line of the row that the word fits
pub record Fitted (w : ℕ) (l : Line) : Type 0 where
  pub in_table : find rows 0 w < row_count
  pub line : l ≡ line_of (find rows 0 w)

-- what is known of a word of row k
abbrev pub fit_of : ℕ → ℕ → Fit
fit_of k w =
    record {
      shape = shape (row_of k) + k * 2 ^ 48;
      sources = bit_and w (shape (row_of k) + k * 2 ^ 48) % 4294967296;
      modifiers = widths (row_of k);
    }

-- a word reads as one of row k, what is known of it is f, and its bits 40 to 47 are its destination
pub record Known (k w : ℕ) (f : Fit) : Type 0 where
  pub in_table : k < row_count
  pub fit : f ≡ fit_of k w
  pub register : bits w 40 6 ≡ number_in k w register_place
  pub mask : bits w 46 2 ≡ number_in k w mask_place

-- the judgement is what reading the word gives
abbrev pub Judges : ℕ → (Result Fit Refusal) → Type 0
Judges w (Ok f) = (k : ℕ) × (Known k w f × (read_number w ≡ gives (instruction_of k w)))
Judges w (Err f) = read_number w ≡ refuses f

-- what is known stays, if the four sources are legal on the word's page
unfoldable pub judged_sources : Fit → ℕ → Result Fit Refusal
judged_sources f w =
    choose (source_legal (bits w 57 2) (bits f.sources 0 8))
    (choose (source_legal (bits w 57 2) (bits f.sources 8 8))
    (choose (source_legal (bits w 57 2) (bits f.sources 16 8))
    (choose (source_legal (bits w 57 2) (bits f.sources 24 8)) (Ok f) (refused 7 3))
    (refused 7 2))
    (refused 7 1))
    (refused 7 0)

-- the four lowest bytes
abbrev pub bytes_of : ℕ → Sources
bytes_of s = sources_of (bits s 0 8 ∷ bits s 8 8 ∷ bits s 16 8 ∷ bits s 24 8 ∷ [])
