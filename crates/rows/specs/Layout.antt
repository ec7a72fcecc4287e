-- Where the fields of a row's word stand (01, The frame). Every row has the same places, ordered by lowest bit; a row only decides what
-- stands there, and what is absent has no bits.
use Rattle.std.specs.Prelude.{Bool, true, false, ◌&&◌, List, [], ◌∷◌, map, ℕ, suc, ◌*◌, ltb, eqb, get_or}
use Rattle.bits.specs.Fields.{Slot, slot, bits, choose}
use Rattle.rows.specs.Kinds.{Kind, width, absent, source, offset, second, register, half_mask, opcode, page, flow}
use Rattle.rows.specs.Rows.{Row, Modifier}

-- a place in a word: of source k, of the branch offset, of a secondary opcode that starts at bit p, of modifier j, of the destination's
-- register and half mask, and of what every word has
pub data Place : Type 0 where
  source_place : ℕ → Place
  offset_place : Place
  second_place : ℕ → Place
  modifier_place : ℕ → Place
  register_place mask_place opcode_place page_place flow_place : Place

-- the lowest bits that a modifier can have, which name it, in their order
abbrev pub modifier_lows : List ℕ
modifier_lows = 8 ∷ 10 ∷ 11 ∷ 24 ∷ 26 ∷ 28 ∷ 30 ∷ 32 ∷ 34 ∷ 35 ∷ 36 ∷ 37 ∷ 38 ∷ 39 ∷ []

-- a place's lowest bit
abbrev pub low : Place → ℕ
low (source_place k) = 8 * k
low offset_place = 8
low (second_place p) = p
low (modifier_place j) = get_or modifier_lows j 0
low register_place = 40
low mask_place = 46
low opcode_place = 48
low page_place = 57
low flow_place = 59

-- the kind of the modifier whose lowest bit is p, among a row's
unfoldable pub modifier_at : List Modifier → ℕ → Kind
modifier_at [] p = absent
modifier_at (m ∷ ms) p = elim (eqb m.low p) [ true ↦ m.kind | false ↦ modifier_at ms p ]

-- this kind where the test passes, else nothing
abbrev pub where_has : Bool → Kind → Kind
where_has true k = k
where_has false k = absent

-- what stands at a place in a row's words
abbrev pub kind_at : Row → Place → Kind
kind_at r (source_place k) = where_has (ltb k r.sources) source
kind_at r offset_place = where_has r.offset offset
kind_at r (second_place p) = where_has (eqb r.second_low p) (second r.second_width)
kind_at r (modifier_place j) = modifier_at r.modifiers (get_or modifier_lows j 0)
kind_at r register_place = where_has r.destination register
kind_at r mask_place = where_has r.destination half_mask
kind_at r opcode_place = opcode
kind_at r page_place = page
kind_at r flow_place = flow

abbrev pub source_places : List Place
source_places = map source_place (0 ∷ 1 ∷ 2 ∷ 3 ∷ [])

abbrev pub modifier_indexes : List ℕ
modifier_indexes = 0 ∷ 1 ∷ 2 ∷ 3 ∷ 4 ∷ 5 ∷ 6 ∷ 7 ∷ 8 ∷ 9 ∷ 10 ∷ 11 ∷ 12 ∷ 13 ∷ []

abbrev pub modifier_places : List Place
modifier_places = map modifier_place modifier_indexes

-- all places, from bit 0 up
unfoldable pub places : List Place
places =
    source_place 0
    ∷ source_place 1
    ∷ offset_place
    ∷ modifier_place 0
    ∷ modifier_place 1
    ∷ modifier_place 2
    ∷ source_place 2
    ∷ second_place 16
    ∷ source_place 3
    ∷ second_place 24
    ∷ modifier_place 3
    ∷ modifier_place 4
    ∷ modifier_place 5
    ∷ modifier_place 6
    ∷ modifier_place 7
    ∷ modifier_place 8
    ∷ modifier_place 9
    ∷ modifier_place 10
    ∷ modifier_place 11
    ∷ modifier_place 12
    ∷ modifier_place 13
    ∷ register_place
    ∷ mask_place
    ∷ opcode_place
    ∷ page_place
    ∷ flow_place
    ∷ []

-- the slots of a row's word
abbrev pub slot_at : Row → Place → Slot
slot_at r p = slot (low p) (width (kind_at r p))

unfoldable pub slots : Row → List Slot
slots r = map (slot_at r) places

-- a word fits a row where it has the row's opcode and secondary opcode
abbrev pub fits : Row → ℕ → Bool
fits r w = eqb (bits w 48 9) r.opcode && eqb (bits w r.second_low r.second_width) r.second

-- the number of the first of some rows that a word fits, counted from k; where none does, the number past the last
unfoldable pub find : List Row → ℕ → ℕ → ℕ
find [] k w = k
find (r ∷ rs) k w = choose (fits r w) k (find rs (suc k) w)
