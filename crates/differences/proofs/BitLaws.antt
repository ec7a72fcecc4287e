-- The fields of a record that was read hold the bits that stand there in its word, and they determine the record. Assumes nothing.
use mathlib.Core.Path.{◌≡◌, refl}
use mathlib.Core.Bool.{Bool, true, false}
use mathlib.Core.List.{List, [], ◌∷◌, ◌++◌, map}
use Prim.Native.Nat.{ℕ, ◌+◌, ◌*◌, ◌^◌, ◌<◌}
use native.Mathlib.Nat.{mod-lt, mod-one}
use native.Mathlib.Omega.{arith}
use lib.Dec.{ltb}
use lib.ListN.{drop}
use lib.Pow.{pow_pos}
use Rattle.bits.specs.Bytes.{little}
use Rattle.bits.specs.Fields.{bits, choose}
use Rattle.bits.specs.Outcomes.{gives, passes}
use Rattle.bits.proofs.SignedLaws.{there}
use Rattle.rows.specs.Kinds.{width, source, offset, register, half_mask}
use Rattle.rows.specs.Rows.{rows, row_of}
use Rattle.rows.specs.Layout.{modifier_lows, modifier_at, where_has, find}
use Rattle.rows.proofs.FindLaws.{find_fits}
use Rattle.container.specs.Container.{count_of, words_of, eight}
use Rattle.record.specs.Instructions.{offset_number, offset_of, instruction_of as record_in}
use Rattle.record.specs.Legality.{judge_instruction}
use Rattle.record.specs.declared.instruction.Instruction.{Instruction}
use Rattle.reading.specs.Reader.{read}
use Rattle.safety.specs.Program.{instruction_at, WellFormed}
use Rattle.writing.proofs.RoundTrip.{read_legal, parsed}
use Rattle.differences.specs.Records.{modifier_bits, contents, field_bits, HoldsBits}
use Rattle.differences.specs.Differences.{instruction_of, shared}
use Rattle.differences.proofs.RecordLaws.{same_record}

-- a field that stands there if t: the destination's two numbers, a source, and a branch offset or else the modifier m
module _ (w : ℕ) where
  destination_there : (t : Bool) → bits w 40 (width (where_has t register)) + 2 ^ 6 * bits w 46 (width (where_has t half_mask)) ≡ choose t (bits w 40 8) 0
  destination_there true = omega arith
  destination_there false = omega arith

  source_there : (t : Bool) (p : ℕ) → bits w p (width (where_has t source)) ≡ choose t (bits w p 8) 0
  source_there true p = refl
  source_there false p = mod-one _

  at_8_there : (t : Bool) (m : ℕ) → choose t (offset_number (offset_of (bits w 8 (width (where_has t offset))))) m ≡ choose t (bits w 8 27) m
  at_8_there true m = there 67108864 (omega arith) (bits w 8 27) (mod-lt _ (pow_pos 27))
  at_8_there false m = refl

-- the record that the word of a row says
held_bits : (k w : ℕ) → contents (record_in k w) ≡ field_bits k w
unfolding contents field_bits
held_bits k w =
    λ j.
    k
    ∷ bits w 57 2
    ∷ bits w 59 4
    ∷ destination_there w (row_of k).destination j
    ∷ map (λ (n : ℕ). source_there w (ltb n (row_of k).sources) (8 * n) j) (0 ∷ 1 ∷ 2 ∷ 3 ∷ [])
    ++ (at_8_there w (row_of k).offset (bits w 8 (width (modifier_at (row_of k).modifiers 8))) j ∷ drop 1 (map (modifier_bits k w) modifier_lows))

pub holds_bits : (bs : List ℕ) (x : Instruction) → read bs ≡ gives x → HoldsBits (little bs) x
holds_bits bs x e =
    let f = parsed bs x e in
    let w = little bs in
    let k = find rows 0 w in
    rw f.same (record { is_row = f.row; fitting = find_fits w f.row; holds = held_bits k w })

-- a record of a well-formed container gets no refusal
record_legal : (s : List ℕ) → WellFormed s → (i : ℕ) → i < count_of s → judge_instruction (instruction_of s i) ≡ passes
unfolding instruction_at
record_legal s f i h =
    let e = (f.reads i h).1 in
    rw e (read_legal (eight (words_of s) i) (f.reads i h).0 e)

-- so where the fields hold the same, the records are the same
pub record_by_fields : (a b : List ℕ) → WellFormed a → WellFormed b → (i : ℕ) → i < shared a b
    → contents (instruction_of a i) ≡ contents (instruction_of b i) → instruction_of a i ≡ instruction_of b i
record_by_fields a b f g i h e =
    same_record (instruction_of a i) (instruction_of b i) (record_legal a f i (omega arith)) (record_legal b g i (omega arith)) e
