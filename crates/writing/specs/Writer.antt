-- Writing a record, and the order of its refusals: 8, 2, 9, 4, 5, 6, 7, 15 (01, Numbers given back).
use Rattle.std.specs.Prelude.{Bool, true, false, ◌&&◌, List, [], ◌∷◌, ℕ, eqb, ℤ, pos, negsuc, length}
use Rattle.bits.specs.Bytes.{little_bytes}
use Rattle.bits.specs.Outcomes.{Outcome, gives, refuses, require, ◌then◌, kept_or}
use Rattle.record.specs.Lists.{source_list, modifier_list}
use Rattle.record.specs.Instructions.{word_of}
use Rattle.record.specs.Legality.{judge_instruction}
use Rattle.record.specs.Answers.{refusal}
use Rattle.record.specs.declared.instruction.Instruction.{Instruction}
use Rattle.record.specs.declared.answer.Refusal.{Refusal}
use Rattle.reading.specs.Reader.{read_number}

-- two lists are equal
unfoldable pub same_list : List ℕ → List ℕ → Bool
same_list [] [] = true
same_list [] (y ∷ ys) = false
same_list (x ∷ xs) [] = false
same_list (x ∷ xs) (y ∷ ys) = eqb x y && same_list xs ys

abbrev pub same_offset : ℤ → ℤ → Bool
same_offset (pos m) (pos n) = eqb m n
same_offset (pos m) (negsuc n) = false
same_offset (negsuc m) (pos n) = false
same_offset (negsuc m) (negsuc n) = eqb m n

-- a record's numbers but for its sources, modifiers and offset
abbrev pub heads : Instruction → List ℕ
heads i = i.row ∷ i.page ∷ i.flow ∷ i.register ∷ i.half_mask ∷ []

-- two records are equal
unfoldable pub same : Instruction → Instruction → Bool
same a b =
    same_list (heads a) (heads b) && (same_list (source_list a.sources) (source_list b.sources) && (same_list (modifier_list a.modifiers) (modifier_list b.modifiers) && same_offset a.offset b.offset))

-- what was read is this record
abbrev pub is_record : Outcome Refusal Instruction → Instruction → Bool
is_record (gives a) i = same a i
is_record (refuses f) i = false

-- the answer to writing a record into a buffer that holds bs: 8 where that isn't eight bytes, then what the record gets, then 15 where its
-- word would not read back as the record
unfoldable pub write : Instruction → List ℕ → Outcome Refusal (Unit {0})
write i bs =
    require (eqb (length bs) 8) (refusal 8 0)
    then judge_instruction i
    then require (is_record (read_number (word_of i)) i) (refusal 15 0)

-- the buffer afterwards: the word's bytes, or on a refusal what it held
unfoldable pub stored : Instruction → List ℕ → List ℕ
stored i bs = kept_or (write i bs) (little_bytes 8 (word_of i)) bs
