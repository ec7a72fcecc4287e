-- A safer fresh record (02, Item 6): what anyone who starts from fresh records can count on.
use Rattle.std.specs.Prelude.{◌≡◌, true, List, ℕ, ◌<◌, ltb, length, get_or}
use Rattle.bits.specs.Fields.{choose}
use Rattle.bits.specs.Halves.{both}
use Rattle.bits.specs.declared.halves.Halves.{Halves}
use Rattle.bits.specs.Outcomes.{gives, passes}
use Rattle.rows.specs.Rows.{row_of, row_count}
use Rattle.record.specs.Lists.{source_list}
use Rattle.record.specs.Defaults.{fresh, ended}
use Rattle.record.specs.Registers.{reads}
use Rattle.record.specs.declared.instruction.Instruction.{Instruction}
use Rattle.writing.specs.Writer.{write, stored}
use Rattle.container.specs.Formats.{known, word_length, container_length}
use Rattle.packing.specs.Packing.{halves_bytes, pack_outcome, pack_buffer}
use Rattle.safety.specs.Verdict.{verdict_of}

-- there is one for every row
abbrev pub FreshGiven : Type 0
FreshGiven = (row : ℕ) → row < row_count → (i : Instruction) × (fresh row ≡ gives i)

-- each source that a fresh record's row has is constant entry 0, byte C0; places that the row doesn't use are 0
abbrev pub FreshSources : Type 0
FreshSources =
    (row : ℕ) (i : Instruction) → fresh row ≡ gives i
    → (j : ℕ) → get_or (source_list i.sources) j 0 ≡ choose (ltb j (row_of row).sources) 0xC0 0

-- so the fresh record of any row reads no register
abbrev pub FreshReadsNone : Type 0
FreshReadsNone = (row : ℕ) (i : Instruction) → fresh row ≡ gives i → reads i ≡ 0

-- no half of any register
abbrev pub no_registers : Halves
no_registers = both 0

-- an annotation of a version that names none
abbrev pub empty_annotation : ℕ → List ℕ
empty_annotation v = halves_bytes v no_registers

-- a trial container (the paper's trial parcel) of a version and one instruction, with an empty entry set and an empty annotation: the
-- instruction is written into a buffer, its word is packed into another one, and what that holds then is accepted
pub record TrialAccepted (v : ℕ) (i : Instruction) (buffer out : List ℕ) : Type 0 where
  pub written : write i buffer ≡ passes
  pub packed : pack_outcome v no_registers (stored i buffer) (empty_annotation v) out ≡ passes
  pub accepted : verdict_of (pack_buffer v no_registers (stored i buffer) (empty_annotation v) out) ≡ passes

-- that is so in each version that there is, for the fresh record of every row, its flow set to `end`, and buffers of the right lengths
abbrev pub FreshAccepted : Type 0
FreshAccepted =
    (v : ℕ) → known v ≡ true → (row : ℕ) (i : Instruction) → fresh row ≡ gives i
    → (buffer out : List ℕ) → length buffer ≡ word_length → length out ≡ container_length v 1 → TrialAccepted v (ended i) buffer out
