-- The form of a decoded instruction: 32 bytes. Byte 0 is the row, 1 the page, 2 the flow, 3 the register, 4 the half mask, 5 to 8 the
-- sources, 9 to 22 the modifiers by their lowest bits, 23 is padding, 24 to 27 the branch offset in two's complement, the lowest byte
-- first, and 28 to 31 are padding. Padding is 0.
use Rattle.std.specs.Prelude.{Bool, not, List, [], ◌∷◌, ◌++◌, ℕ, zero, suc, ◌+◌, ◌*◌, eqb, ltb, length, get_or}
use Rattle.bits.specs.Bytes.{little_bytes}
use Rattle.bits.specs.Signed.{unsigned, signed}
use Rattle.bits.specs.Outcomes.{Outcome, gives, refuses, require, ◌then◌, kept_or}
use Rattle.rows.specs.Rows.{row_count}
use Rattle.record.specs.Answers.{refusal}
use Rattle.writing.specs.Writer.{heads, write}
use Rattle.record.specs.Lists.{source_list, sources_of, modifier_list, modifiers_of}
use Rattle.record.specs.Instructions.{word_of}
use Rattle.record.specs.declared.instruction.Instruction.{Instruction}
use Rattle.record.specs.declared.answer.Refusal.{Refusal}

-- half the numbers of 32 bits
abbrev pub half : ℕ
half = 2147483648

-- the form of an instruction
unfoldable pub form_of : Instruction → List ℕ
form_of i =
    heads i
    ++ source_list i.sources
    ++ modifier_list i.modifiers
    ++ (0 ∷ [])
    ++ little_bytes 4 (unsigned half i.offset)
    ++ (0 ∷ 0 ∷ 0 ∷ 0 ∷ [])

-- n bytes of a form from byte k on
abbrev pub pick : ℕ → ℕ → List ℕ → List ℕ
pick zero k f = []
pick (suc n) k f = get_or f k 0 ∷ pick n (suc k) f

-- the instruction of a form
abbrev pub instruction_of_form : List ℕ → Instruction
instruction_of_form f =
    record {
      row = get_or f 0 0;
      page = get_or f 1 0;
      flow = get_or f 2 0;
      register = get_or f 3 0;
      half_mask = get_or f 4 0;
      sources = sources_of (pick 4 5 f);
      modifiers = modifiers_of (pick 14 9 f);
      offset = signed half (get_or f 24 0 + 256 * (get_or f 25 0 + 256 * (get_or f 26 0 + 256 * get_or f 27 0)));
    }

-- a padding byte isn't 0
unfoldable pub padded : List ℕ → Bool
padded f = not (eqb (get_or f 23 0 + get_or f 28 0 + get_or f 29 0 + get_or f 30 0 + get_or f 31 0) 0)

-- a form afterwards: that of the instruction given, or on a refusal what it held
abbrev pub form_after : Outcome Refusal Instruction → List ℕ → List ℕ
form_after (gives i) f = form_of i
form_after (refuses _) f = f

-- the answer to writing a form's word into a buffer that holds bs: 8 and 2 first, then 9 for padding that isn't 0, as padding is a place
-- without use, then as for the instruction
unfoldable pub write_form : List ℕ → List ℕ → Outcome Refusal (Unit {0})
write_form f bs =
    require (eqb (length bs) 8) (refusal 8 0)
    then require (ltb (get_or f 0 0) row_count) (refusal 2 0)
    then require (not (padded f)) (refusal 9 0)
    then write (instruction_of_form f) bs

-- the buffer afterwards: the word's bytes, or on a refusal what it held
unfoldable pub word_after : List ℕ → List ℕ → List ℕ
word_after f bs = kept_or (write_form f bs) (little_bytes 8 (word_of (instruction_of_form f))) bs
