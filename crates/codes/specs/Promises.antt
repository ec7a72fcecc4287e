-- What the header include/vsp.h promises of several calls together. Where a call gives an instruction i, the form it leaves is form_of i;
-- where a form is written, the buffer is then word_after. Bytes are numbers below 256.
use Rattle.std.specs.Prelude.{◌≡◌, true, List, ◌∷◌, ◌++◌, ◌↔◌, ℕ, ◌%◌, ◌^◌, ◌<◌, ◌≤◌, length, get_or, take, drop, None, Some}
use Rattle.bits.specs.Halves.{both}
use Rattle.bits.specs.declared.halves.Halves.{Halves}
use Rattle.bits.specs.Outcomes.{Outcome, gives, passes}
use Rattle.rows.specs.Rows.{row_count}
use Rattle.rows.specs.Names.{name_of}
use Rattle.record.specs.declared.instruction.Instruction.{Instruction}
use Rattle.record.specs.declared.answer.Refusal.{Refusal}
use Rattle.opcoderows.specs.Opcodes.{row_with}
use Rattle.codec.specs.Demand2.{Given}
use Rattle.reading.specs.Reader.{read}
use Rattle.record.specs.Defaults.{fresh}
use Rattle.container.specs.Formats.{known}
use Rattle.packing.specs.Packing.{container_bytes, halves_bytes}
use Rattle.safety.specs.Verdict.{verdict_of}
use Rattle.infer.specs.Inference.{infer_outcome}
use Rattle.differences.specs.declared.line.Line.{Line}
use Rattle.differences.specs.Answers.{line_outcome, list_outcome}
use Rattle.codes.specs.Codes.{outcome_code, verdict_code, infer_code, row_code, line_code, list_code}
use Rattle.form.specs.Form.{form_of, write_form, word_after}
use Rattle.codes.specs.Texts.{form_text}

-- "Gives 0 .., or number + 2^8 place": the code is 0 exactly where something is given, so that no refusal looks like success
abbrev pub ZeroTells : {A : Type 0} → Outcome Refusal A → Type 0
ZeroTells o = (outcome_code o ≡ 0) ↔ Given o

-- so for each exported function that can refuse
pub record ZeroMeansDone : Type 0 where
  -- vsp_read
  pub of_read : (bs : List ℕ) → ZeroTells (read bs)
  -- vsp_write
  pub of_write : (f buffer : List ℕ) → ZeroTells (write_form f buffer)
  -- vsp_fresh
  pub of_fresh : (row : ℕ) → ZeroTells (fresh row)
  -- vsp_check: "Gives 0 where the parcel is accepted"
  pub of_check : (s : List ℕ) → (verdict_code (verdict_of s) ≡ 0) ↔ (verdict_of s ≡ passes)
  -- vsp_infer, where it proposes notes: "so that the number is 0". The number is the code's lowest byte.
  pub of_infer : (v : ℕ) (words : List ℕ) (entry : Halves) (buffer : List ℕ)
      → (infer_code (infer_outcome v words entry buffer) % 2 ^ 8 ≡ 0) ↔ ((k : ℕ) × (infer_outcome v words entry buffer ≡ gives k))
  -- vsp_diff_line: "Gives 0 and the line's three numbers"
  pub of_diff_line : (a b : List ℕ) (k : ℕ) → (line_code (line_outcome a b k) ≡ 0) ↔ ((l : Line) × (line_outcome a b k ≡ gives (Some l)))
  -- vsp_diff_lines: "so that the number is 0". The number is the code's lowest byte.
  pub of_diff_lines : (a b : List ℕ) → (list_code (list_outcome a b) % 2 ^ 8 ≡ 0) ↔ ((n : ℕ) × (list_outcome a b ≡ gives n))

-- vsp_diff_line: "VSP_FEWER where the list has no line k": 255 is the number of no refusal
abbrev pub FewerMeansNone : Type 0
FewerMeansNone = (a b : List ℕ) (k : ℕ) → (line_code (line_outcome a b k) ≡ 255) ↔ (line_outcome a b k ≡ gives None)

-- vsp_row_of: "or VSP_NO_ROW where there is none": 255 is the number of no row
abbrev pub NoRowMeansNone : Type 0
NoRowMeansNone = (opcode k : ℕ) → (row_code (row_with opcode k) ≡ 255) ↔ (row_with opcode k ≡ None)

-- vsp_read: "Writing the form gives the same word again." Whatever the buffer of 8 bytes held, it then holds the bytes that were read.
abbrev pub ReadThenWritten : Type 0
ReadThenWritten =
    (bs : List ℕ) → ((k : ℕ) → get_or bs k 0 < 256) → (i : Instruction) → read bs ≡ gives i → (buffer : List ℕ) → length buffer ≡ 8
    → (write_form (form_of i) buffer ≡ passes) × (word_after (form_of i) buffer ≡ bs)

-- vsp_write: "Reading the word gives the same form again.", all 32 bytes of it
abbrev pub WrittenThenRead : Type 0
WrittenThenRead =
    (f : List ℕ) → length f ≡ 32 → ((k : ℕ) → get_or f k 0 < 256) → (buffer : List ℕ) → write_form f buffer ≡ passes
    → (i : Instruction) × (read (word_after f buffer) ≡ gives i) × (form_of i ≡ f)

-- vsp_fresh: "A fresh instruction can always be written."
abbrev pub FreshThenWritten : Type 0
FreshThenWritten =
    (row : ℕ) (i : Instruction) → fresh row ≡ gives i → (buffer : List ℕ) → length buffer ≡ 8 → write_form (form_of i) buffer ≡ passes

-- vsp_fresh: "It reads no register: with its flow, byte 2, set to 15 (end), its word alone, with an empty entry set and an empty note, is a
-- parcel that vsp_check accepts.", of either version
abbrev pub end_set : List ℕ → List ℕ
end_set f = take 2 f ++ (15 ∷ drop 3 f)

abbrev pub FreshThenAccepted : Type 0
FreshThenAccepted =
    (v : ℕ) → known v ≡ true → (row : ℕ) (i : Instruction) → fresh row ≡ gives i → (buffer : List ℕ) → length buffer ≡ 8
    → (write_form (end_set (form_of i)) buffer ≡ passes)
    × (verdict_code (verdict_of (container_bytes v (both 0) (word_after (end_set (form_of i)) buffer) (halves_bytes v (both 0)))) ≡ 0)

-- vsp_text: "the length of the text without the 0, which is never 0"
abbrev pub TextNeverEmpty : Type 0
TextNeverEmpty = (f : List ℕ) → 0 < length (form_text f)

-- vsp_name: "or gives 0 where the row is over 76", and only there
abbrev pub NoNameMeansNone : Type 0
NoNameMeansNone = (row : ℕ) → (length (name_of row) ≡ 0) ↔ (row_count ≤ row)
