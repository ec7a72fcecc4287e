-- What is legal in a record (01, Numbers given back: 2 to 9), for reading and for writing.
use Rattle.std.specs.Prelude.{Bool, true, ◌&&◌, List, [], ◌∷◌, map, ℕ, suc, ltb}
use Rattle.bits.specs.Fields.{choose, fit}
use Rattle.bits.specs.Outcomes.{Outcome, passes, require, ◌then◌}
use Rattle.rows.specs.Kinds.{flow, legal_value}
use Rattle.rows.specs.Sources.{source_legal}
use Rattle.rows.specs.Rows.{Row, row_of, row_count}
use Rattle.rows.specs.Layout.{Place, offset_place, register_place, mask_place, page_place, flow_place, low, kind_at, source_places, modifier_places, slot_at}
use Rattle.record.specs.Answers.{refusal}
use Rattle.record.specs.Lists.{source_list, modifier_list}
use Rattle.record.specs.Instructions.{offset_number}
use Rattle.record.specs.declared.instruction.Instruction.{Instruction}
use Rattle.record.specs.declared.answer.Refusal.{Refusal}

-- 6 for the first of some modifiers whose value is illegal; its place is the modifier's lowest bit
unfoldable pub judge_modifiers : Row → List Place → List ℕ → Outcome Refusal (Unit {0})
judge_modifiers r [] vs = passes
judge_modifiers r (p ∷ ps) [] = passes
judge_modifiers r (p ∷ ps) (v ∷ vs) = require (legal_value (kind_at r p) v) (refusal 6 (low p)) then judge_modifiers r ps vs

-- source k, if the row has it, is legal on a page
abbrev pub source_ok : Row → ℕ → ℕ → ℕ → Bool
source_ok r page k b = choose (ltb k r.sources) (source_legal page b) true

-- 7 for the first of the sources from k on that is refused; its place is the source's index
unfoldable pub judge_sources : Row → ℕ → ℕ → List ℕ → Outcome Refusal (Unit {0})
judge_sources r page k [] = passes
judge_sources r page k (b ∷ bs) = require (source_ok r page k b) (refusal 7 k) then judge_sources r page (suc k) bs

-- 4 for a reserved flow, 5 for half mask 0, then 6, then 7
unfoldable pub judge : Row → Instruction → Outcome Refusal (Unit {0})
judge r i =
    require (legal_value flow i.flow) (refusal 4 0)
    then require (legal_value (kind_at r mask_place) i.half_mask) (refusal 5 0)
    then judge_modifiers r modifier_places (modifier_list i.modifiers)
    then judge_sources r i.page 0 (source_list i.sources)

-- each of the numbers has room at its place; at a place that the row does not use only 0 has room
abbrev pub room : Row → List Place → List ℕ → Bool
room r ps vs = fit (map (slot_at r) ps) vs

-- all numbers of a record have room; an offset out of range has none
unfoldable pub roomy : Row → Instruction → Bool
roomy r i =
    room r (page_place ∷ flow_place ∷ register_place ∷ mask_place ∷ offset_place ∷ [])
    (i.page ∷ i.flow ∷ i.register ∷ i.half_mask ∷ offset_number i.offset ∷ [])
    && (room r source_places (source_list i.sources) && room r modifier_places (modifier_list i.modifiers))

-- what a record gets: 2 for a row number past the table's end, 9 for a number that has no room, then 4 to 7
unfoldable pub judge_instruction : Instruction → Outcome Refusal (Unit {0})
judge_instruction i =
    require (ltb i.row row_count) (refusal 2 0)
    then require (roomy (row_of i.row) i) (refusal 9 0)
    then judge (row_of i.row) i
