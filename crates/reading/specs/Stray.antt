-- The bit that refusal 3 names (02, Item 5), in plain terms.
use Rattle.std.specs.Prelude.{◌≡◌, true, false, List, ◌↔◌, ℕ, ◌<◌, length}
use Rattle.bits.specs.Fields.{assigned}
use Rattle.bits.specs.Bytes.{little}
use Rattle.bits.specs.Sets.{Has}
use Rattle.bits.specs.Outcomes.{Outcome, refuses}
use Rattle.rows.specs.Rows.{row_of, row_count}
use Rattle.rows.specs.Layout.{slots, fits}
use Rattle.record.specs.Answers.{refusal}
use Rattle.record.specs.declared.instruction.Instruction.{Instruction}
use Rattle.record.specs.declared.answer.Refusal.{Refusal}

-- b is the lowest stray bit of the word w
pub record StrayAt (w b : ℕ) : Type 0 where
  -- a row of the table fits the word
  pub row : ℕ
  pub in_table : row < row_count
  pub fitting : fits (row_of row) w ≡ true
  -- the bit is one of the word's 64, and it is 1
  pub is : b < 64
  pub one : Has w b
  -- no field of the row owns it
  pub unowned : assigned (slots (row_of row)) b ≡ false
  -- and a field owns each lower bit that is 1
  pub lowest : (c : ℕ) → c < b → Has w c → assigned (slots (row_of row)) c ≡ true

-- of a reader, for all bytes: it refuses them with 3 and names bit b exactly where they are a word and b is its lowest stray bit
abbrev pub NamesStray : (List ℕ → Outcome Refusal Instruction) → Type 0
NamesStray reader = (bs : List ℕ) (b : ℕ) → (reader bs ≡ refuses (refusal 3 b)) ↔ ((length bs ≡ 8) × StrayAt (little bs) b)
