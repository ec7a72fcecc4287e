-- The text of a decoded instruction, in the syntax of Mesa's Valhall disassembler: the name, the instruction's own modifiers, the flow, and
-- the operands. It is given for any record; a question mark stands where there is no name.
use Rattle.std.specs.Prelude.{List, [], ◌∷◌, ◌++◌, ℕ, zero, suc, ◌+◌, ◌*◌, eqb, ltb, ℤ, pos, negsuc, get_or}
use Rattle.bits.specs.Fields.{choose}
use Rattle.rows.specs.Kinds.{Kind, half_mask, flow}
use Rattle.rows.specs.Rows.{Row, row_of, row_count}
use Rattle.rows.specs.Layout.{modifier_lows, modifier_place, kind_at}
use Rattle.rows.specs.Names.{ascii, name_of, name_width}
use Rattle.rows.specs.Sources.{meaning}
use Rattle.record.specs.declared.instruction.Instruction.{Instruction}
use Rattle.record.specs.Lists.{source_list, modifier_list}
use Rattle.text.specs.Text.{number_text}
use Rattle.fieldtext.specs.Enumerations.{Owner, own, sign, swizzle, owner, is, field_text, value_width}
use Rattle.sourcetext.specs.SourceText.{meaning_text, longest_source}

-- the index of the modifier whose lowest bit is p, counted from the front of a list of lowest bits
abbrev pub index_of : List ℕ → ℕ → ℕ
index_of [] p = 0
index_of (q ∷ qs) p = choose (eqb q p) 0 (suc (index_of qs p))

-- what stands at it in a row's words, and what a record has there
abbrev pub kind_of_bit : Row → ℕ → Kind
kind_of_bit r p = kind_at r (modifier_place (index_of modifier_lows p))

abbrev pub value_at : Instruction → ℕ → ℕ
value_at x p = get_or (modifier_list x.modifiers) (index_of modifier_lows p) 0

-- the modifier at bit p, if it is this owner's
abbrev pub modifier_text : Owner → Instruction → ℕ → List ℕ
modifier_text o x p =
    choose (is o (owner (kind_of_bit (row_of x.row) p))) (field_text (kind_of_bit (row_of x.row) p) (value_at x p)) []

abbrev pub modifiers_text : Owner → Instruction → List ℕ → List ℕ
modifiers_text o x [] = []
modifiers_text o x (p ∷ ps) = modifier_text o x p ++ modifiers_text o x ps

-- the instruction's own modifiers, in 002's order: NaN mode, ftz, flush_inf; conservative, eq; condition, mux or clamp before result type,
-- round mode or saturate
abbrev pub own_bits : List ℕ
own_bits = 8 ∷ 10 ∷ 11 ∷ 35 ∷ 36 ∷ 32 ∷ 30 ∷ []

-- negate and absolute of source k (01, The frame: N)
abbrev pub sign_bits : ℕ → List ℕ
sign_bits zero = 38 ∷ 39 ∷ []
sign_bits (suc zero) = 36 ∷ 37 ∷ []
sign_bits (suc (suc zero)) = 34 ∷ 35 ∷ []
sign_bits (suc (suc (suc k))) = []

-- where source k can have its swizzle (01, The frame): F, H and the lanes; W and the half-swizzle; combine
abbrev pub swizzle_bits : ℕ → List ℕ
swizzle_bits zero = 28 ∷ 36 ∷ 37 ∷ []
swizzle_bits (suc zero) = 26 ∷ []
swizzle_bits (suc (suc zero)) = 24 ∷ []
swizzle_bits (suc (suc (suc k))) = []

-- source k: what its byte means on the page, its signs, its swizzle
unfoldable pub source_text : Instruction → ℕ → List ℕ
source_text x k =
    meaning_text (meaning x.page (get_or (source_list x.sources) k 0))
    ++ modifiers_text sign x (sign_bits k)
    ++ modifiers_text swizzle x (swizzle_bits k)

-- the destination: its register, and which half where it is one
unfoldable pub destination_text : Instruction → List ℕ
destination_text x = ascii "r" ++ number_text 10 3 x.register ++ field_text half_mask x.half_mask

unfoldable pub signed_text : ℤ → List ℕ
signed_text (pos n) = number_text 10 10 n
signed_text (negsuc n) = ascii "-" ++ number_text 10 10 (suc n)

-- a space stands before the first operand, a comma and a space before each other one
abbrev pub separator : ℕ → List ℕ
separator j = choose (eqb j 0) (ascii " ") (ascii ", ")

-- how many operands stand before the sources
abbrev pub before_sources : Instruction → ℕ
before_sources x = choose (row_of x.row).destination 1 0

abbrev pub first_operand : Instruction → List ℕ
first_operand x = choose (row_of x.row).destination (separator 0 ++ destination_text x) []

-- the first n sources
unfoldable pub sources_text : Instruction → ℕ → List ℕ
sources_text x zero = []
sources_text x (suc k) = sources_text x k ++ (separator (before_sources x + k) ++ source_text x k)

-- the branch offset; a comma stands before it, since BRANCHZ, the only row that has one, has a source
abbrev pub last_operand : Instruction → List ℕ
last_operand x = choose (row_of x.row).offset (ascii ", offset:" ++ signed_text x.offset) []

abbrev pub operands_text : Instruction → List ℕ
operands_text x = first_operand x ++ sources_text x (row_of x.row).sources ++ last_operand x

abbrev pub row_text : ℕ → List ℕ
row_text k = choose (ltb k row_count) (name_of k) (ascii "?")

abbrev pub opcode_text : Instruction → List ℕ
opcode_text x = row_text x.row ++ modifiers_text own x own_bits ++ field_text flow x.flow

unfoldable pub instruction_text : Instruction → List ℕ
instruction_text x = opcode_text x ++ operands_text x

-- no such text has more bytes
abbrev pub longest_opcode : ℕ
longest_opcode = name_width + 7 * value_width + value_width

abbrev pub longest_operands : ℕ
longest_operands = 2 + 4 + value_width + 4 * (2 + longest_source) + 20

abbrev pub longest_text : ℕ
longest_text = longest_opcode + longest_operands
