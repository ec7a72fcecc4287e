-- The fields of a record, and what each of them holds (02, Item 4).
use Rattle.std.specs.Prelude.{◌≡◌, true, ◌&&◌, List, [], ◌∷◌, ◌++◌, map, ℕ, ◌+◌, ◌*◌, ◌^◌, ◌<◌, ltb, eqb, drop}
use Rattle.bits.specs.Fields.{bits, choose}
use Rattle.rows.specs.Kinds.{width}
use Rattle.rows.specs.Rows.{row_of, row_count}
use Rattle.rows.specs.Layout.{modifier_lows, modifier_at, fits}
use Rattle.record.specs.Lists.{source_list, modifier_list}
use Rattle.record.specs.Instructions.{offset_number}
use Rattle.record.specs.declared.instruction.Instruction.{Instruction}
use Rattle.differences.specs.declared.line.What.{What}
use Rattle.differences.specs.declared.line.What.TheVariants.{Row, Page, Flow, Destination, Source, Modifier}

-- the fields in the request's order: row, page, flow, destination, sources 0 to 3, and the modifiers by their lowest bits, which name them.
-- The branch offset is the one at bit 8. Where rows differ, modifiers of either row that have the same lowest bit are one field.
unfoldable pub fields : List What
fields = Row ∷ Page ∷ Flow ∷ Destination ∷ map Source (0 ∷ 1 ∷ 2 ∷ 3 ∷ []) ++ map Modifier modifier_lows

-- how many fields there are, and so how many contents
abbrev pub field_count : ℕ
field_count = 22

-- the destination is one field, bits 40 to 47: six bits for the register, and two above them for the half mask
abbrev pub destination : Instruction → ℕ
destination i = i.register + 2 ^ 6 * i.half_mask

-- what stands at bit 8: the branch offset, as its 27 bits, in a row that has one, else the modifier there
abbrev pub at_bit_8 : Instruction → ℕ
at_bit_8 i = choose (row_of i.row).offset (offset_number i.offset) i.modifiers.m8

-- what each field of a record holds, in the same order: the row's number, or the field's bits; a record that was read has 0 where its row
-- lacks a field
unfoldable pub contents : Instruction → List ℕ
contents i =
    i.row ∷ i.page ∷ i.flow ∷ destination i ∷ source_list i.sources ++ (at_bit_8 i ∷ drop 1 (modifier_list i.modifiers))

-- the same as it stands in the word w of row k: the destination's bits 40 to 47 and the bytes of the sources, where the row has them
abbrev pub destination_bits : ℕ → ℕ → ℕ
destination_bits k w = choose (row_of k).destination (bits w 40 8) 0

abbrev pub source_bits : ℕ → ℕ → ℕ → ℕ
source_bits k w j = choose (ltb j (row_of k).sources) (bits w (8 * j) 8) 0

-- and from bit p up the modifier's bits; at bit 8 of a row that has a branch offset its 27 bits; none where the row has neither
abbrev pub modifier_bits : ℕ → ℕ → ℕ → ℕ
modifier_bits k w p = choose (eqb p 8 && (row_of k).offset) (bits w 8 27) (bits w p (width (modifier_at (row_of k).modifiers p)))

unfoldable pub field_bits : ℕ → ℕ → List ℕ
field_bits k w =
    k ∷ bits w 57 2 ∷ bits w 59 4 ∷ destination_bits k w ∷ map (source_bits k w) (0 ∷ 1 ∷ 2 ∷ 3 ∷ []) ++ map (modifier_bits k w) modifier_lows

-- what a record x that was read from the word w holds in its fields: its row's number, and the bits that stand there in the word
pub record HoldsBits (w : ℕ) (x : Instruction) : Type 0 where
  pub is_row : x.row < row_count
  pub fitting : fits (row_of x.row) w ≡ true
  pub holds : contents x ≡ field_bits x.row w
