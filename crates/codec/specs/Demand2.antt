-- Demand 2: the words that read are those which fit a row of 01's table, hold only legal values in the row's fields, and have 0 in all bits
-- that are no field of the row; any other word is refused. Two rows never fit the same word. To read a word and write the record leads back
-- to the word; to write a legal record and read the word leads back to the record.
use Rattle.std.specs.Prelude.{◌≡◌, Bool, true, false, List, [], ◌∷◌, ◌↔◌, ℕ, ◌*◌, ◌<◌, ◌≤◌, ℤ, pos, negsuc, length, get_or}
use Rattle.bits.specs.Fields.{bits, assigned}
use Rattle.bits.specs.Bytes.{little}
use Rattle.bits.specs.Outcomes.{Outcome, gives, refuses, passes}
use Rattle.rows.specs.Kinds.{Kind, legal_value, width, flow, half_mask}
use Rattle.rows.specs.Sources.{source_legal}
use Rattle.rows.specs.Rows.{Modifier, row_of, row_count}
use Rattle.rows.specs.Layout.{slots, modifier_at, modifier_lows}
use Rattle.record.specs.Lists.{source_list, modifier_list}
use Rattle.reading.specs.Reader.{read}
use Rattle.writing.specs.Writer.{stored}
use Rattle.record.specs.declared.instruction.Instruction.{Instruction}
use Rattle.record.specs.declared.answer.Refusal.{Refusal}

-- v is one of the legal values of a kind
abbrev pub Allowed : Kind → ℕ → Type 0
Allowed k v = legal_value k v ≡ true

-- P holds of each; P holds of each and what stands beside it
abbrev pub Each : {A : Type 0} → (A → Type 0) → List A → Type 0
Each P [] = Unit {0}
Each P (x ∷ xs) = P x × Each P xs

abbrev pub Beside : (ℕ → ℕ → Type 0) → List ℕ → List ℕ → Type 0
Beside P [] [] = Unit {0}
Beside P [] (v ∷ vs) = ⊥
Beside P (p ∷ ps) [] = ⊥
Beside P (p ∷ ps) (v ∷ vs) = P p v × Beside P ps vs

-- row k fits the word
abbrev pub Fits : ℕ → ℕ → Type 0
Fits k w = (bits w 48 9 ≡ (row_of k).opcode) × (bits w (row_of k).second_low (row_of k).second_width ≡ (row_of k).second)

-- what the words are that are read
pub record Readable (bs : List ℕ) : Type 0 where
  pub eight : length bs ≡ 8
  -- a row fits, and it is the only one
  pub row : ℕ
  pub in_table : row < row_count
  pub fits : Fits row (little bs)
  pub only : (k : ℕ) → k < row_count → Fits k (little bs) → k ≡ row
  -- a bit that is no field of the row is 0
  pub unassigned : (b : ℕ) → b < 64 → assigned (slots (row_of row)) b ≡ false → bits (little bs) b 1 ≡ 0
  -- each field holds a legal value
  pub flow_legal : Allowed flow (bits (little bs) 59 4)
  pub destination_legal : (row_of row).destination ≡ true → Allowed half_mask (bits (little bs) 46 2)
  pub modifiers_legal : Each (λ (m : Modifier). Allowed m.kind (bits (little bs) m.low (width m.kind))) (row_of row).modifiers
  pub sources_legal : (k : ℕ) → k < (row_of row).sources → source_legal (bits (little bs) 57 2) (bits (little bs) (8 * k) 8) ≡ true

-- a destination, where the row has one, is a register and a half mask, and else 0
abbrev pub Destined : Bool → ℕ → ℕ → Type 0
Destined true register mask = (register < 64) × Allowed half_mask mask
Destined false register mask = (register ≡ 0) × (mask ≡ 0)

-- source k, where the row has it, is a legal byte, and else 0
pub record Sourced (i : Instruction) (k b : ℕ) : Type 0 where
  pub byte : b < 256
  pub present : k < (row_of i.row).sources → source_legal i.page b ≡ true
  pub absent : (row_of i.row).sources ≤ k → b ≡ 0

-- a branch offset has 27 bits in two's complement: -67108864 is the lowest, 67108863 the highest
abbrev pub InRange : ℤ → Type 0
InRange (pos n) = n < 67108864
InRange (negsuc n) = n < 67108864

abbrev pub Offset : Bool → ℤ → Type 0
Offset true z = InRange z
Offset false z = z ≡ pos 0

-- what the legal records are, field by field
pub record LegalRecord (i : Instruction) : Type 0 where
  pub in_table : i.row < row_count
  pub page_legal : i.page < 4
  pub flow_legal : Allowed flow i.flow
  pub destination_legal : Destined (row_of i.row).destination i.register i.half_mask
  pub sources_legal : (k : ℕ) → k < 4 → Sourced i k (get_or (source_list i.sources) k 0)
  -- a modifier that the row lacks is absent, and only 0 is legal there
  pub modifiers_legal : Beside (λ (p v : ℕ). Allowed (modifier_at (row_of i.row).modifiers p) v) modifier_lows (modifier_list i.modifiers)
  pub offset_legal : Offset (row_of i.row).offset i.offset

-- something is given
abbrev pub Given : {A : Type 0} → Outcome Refusal A → Type 0
Given {A} o = (a : A) × (o ≡ gives a)

-- Demand 2, of any reader and any writer: functions from bytes, and from a record and a buffer's bytes to the answer and to the buffer's
-- bytes afterwards. Bytes are numbers below 256.
pub record Demand2 (reader : List ℕ → Outcome Refusal Instruction) (writer : Instruction → List ℕ → Outcome Refusal (Unit {0}))
    (after : Instruction → List ℕ → List ℕ) : Type 0 where
  -- the readable words are read, and they alone
  pub read_when : (bs : List ℕ) → Given (reader bs) ↔ Readable bs
  -- rows that fit the same word are the same row
  pub one_row : (w j k : ℕ) → j < row_count → k < row_count → Fits j w → Fits k w → j ≡ k
  -- from a word to its record and back
  pub again : (bs : List ℕ) → ((b : ℕ) → get_or bs b 0 < 256) → (i : Instruction) → reader bs ≡ gives i → (buffer : List ℕ) → length buffer ≡ 8
      → (writer i buffer ≡ passes) × (after i buffer ≡ bs)
  -- from a legal record to its word and back
  pub back : (i : Instruction) → LegalRecord i → (buffer : List ℕ) → length buffer ≡ 8
      → (writer i buffer ≡ passes) × (reader (after i buffer) ≡ gives i)
  -- a record is written exactly when it is legal and the buffer has eight bytes
  pub written_when : (i : Instruction) (buffer : List ℕ) → (writer i buffer ≡ passes) ↔ (LegalRecord i × (length buffer ≡ 8))

-- what demand 2 says of one call of the reader: its bytes and its answer
pub record ReadAsAsked (bs : List ℕ) (answer : Outcome Refusal Instruction) : Type 0 where
  pub read_when : Given answer ↔ Readable bs
  pub again : (i : Instruction) → answer ≡ gives i → (buffer : List ℕ) → length buffer ≡ 8 → stored i buffer ≡ bs

-- what demand 2 says of one call of the writer: its record, its buffer before, its answer, and its buffer afterwards; and of demand 1, that a
-- refusal writes nothing
pub record WrittenAsAsked (i : Instruction) (buffer : List ℕ) (answer : Outcome Refusal (Unit {0})) (after : List ℕ) : Type 0 where
  pub written_when : (answer ≡ passes) ↔ (LegalRecord i × (length buffer ≡ 8))
  pub back : answer ≡ passes → read after ≡ gives i
  pub kept : (f : Refusal) → answer ≡ refuses f → after ≡ buffer
