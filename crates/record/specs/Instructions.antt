-- Decoded instructions (the paper's records) and the numbers of their words (01, The 77 rows, last part).
use Rattle.std.specs.Prelude.{List, map, ℕ, eqb, ℤ, get_or}
use Rattle.bits.specs.Fields.{bits, choose, join}
use Rattle.bits.specs.Signed.{unsigned, signed}
use Rattle.rows.specs.Kinds.{width}
use Rattle.rows.specs.Rows.{Row, row_of}
use Rattle.rows.specs.Layout.{Place, source_place, offset_place, second_place, modifier_place, register_place, mask_place, opcode_place, page_place, flow_place, low, kind_at, source_places, modifier_places, places, slots}
use Rattle.record.specs.Lists.{source_list, sources_of, modifier_list, modifiers_of}
use Rattle.record.specs.declared.instruction.Instruction.{Instruction}

-- an offset from -67108864 to 67108863 as 27 bits, two's complement; one that is out of range is a number too large for 27 bits
abbrev pub offset_number : ℤ → ℕ
offset_number z = unsigned 67108864 z

abbrev pub offset_of : ℕ → ℤ
offset_of n = signed 67108864 n

-- what a word of row k has at a place
abbrev pub number_in : ℕ → ℕ → Place → ℕ
number_in k w p = bits w (low p) (width (kind_at (row_of k) p))

-- what a word of row k says (01, The 77 rows, last part): the number at each place, and 0 at a place that the row does not use. A source
-- stays a byte, a destination is two numbers, and the branch offset has its sign.
abbrev pub instruction_of : ℕ → ℕ → Instruction
instruction_of k w =
    record {
      row = k;
      page = number_in k w page_place;
      flow = number_in k w flow_place;
      register = number_in k w register_place;
      half_mask = number_in k w mask_place;
      sources = sources_of (map (number_in k w) source_places);
      modifiers = modifiers_of (map (number_in k w) modifier_places);
      offset = offset_of (number_in k w offset_place);
    }

-- a row's secondary opcode, if it starts at bit p
abbrev pub second_number : Row → ℕ → ℕ
second_number r p = choose (eqb r.second_low p) r.second 0

-- what an instruction's word has at a place
abbrev pub number : Instruction → Place → ℕ
number i (source_place k) = get_or (source_list i.sources) k 0
number i offset_place = offset_number i.offset
number i (second_place p) = second_number (row_of i.row) p
number i (modifier_place j) = get_or (modifier_list i.modifiers) j 0
number i register_place = i.register
number i mask_place = i.half_mask
number i opcode_place = (row_of i.row).opcode
number i page_place = i.page
number i flow_place = i.flow

unfoldable pub numbers : Instruction → List ℕ
numbers i = map (number i) places

-- the word that an instruction says
abbrev pub word_of : Instruction → ℕ
word_of i = join (slots (row_of i.row)) (numbers i)
