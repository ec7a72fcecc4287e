-- A record is written exactly when it is legal. Assumes nothing.
use mathlib.Core.Path.{◌≡◌, refl, sym, ap, ◌∙◌}
use mathlib.Core.Bool.{Bool, true, false}
use mathlib.Core.List.{List, [], ◌∷◌}
use Prim.Native.Nat.{ℕ, zero, suc, ◌-◌, ◌^◌, ◌<◌}
use native.Mathlib.Nat.{not-suc-le-zero, le_of_suc-le-suc}
use native.Mathlib.Omega.{arith}
use lib.Dec.{ltb, lt→ltb}
use lib.IntN.{ℤ, pos, negsuc}
use lib.ListN.{length, get_or}
use borrow.Author.Tests.{lt-ltb, le-ltb, ltb-true, ltb-false}
use Rattle.bits.specs.Fields.{choose}
use Rattle.bits.specs.Signed.{unsigned, signed}
use Rattle.bits.specs.Outcomes.{passes}
use Rattle.bits.proofs.FieldLaws.{none, some}
use Rattle.bits.proofs.SignedLaws.{back_again}
use Rattle.rows.specs.Kinds.{width, source, offset, register, half_mask, legal_value}
use Rattle.rows.specs.Rows.{Row, row_of, row_count}
use Rattle.rows.specs.Layout.{modifier_place, mask_place, flow_place, where_has, modifier_at, modifier_lows, source_places, modifier_places}
use Rattle.record.specs.Lists.{source_list, modifier_list}
use Rattle.record.specs.Instructions.{offset_number, offset_of}
use Rattle.record.specs.Legality.{source_ok, roomy, judge_instruction}
use Rattle.codec.specs.Demand2.{Allowed, Beside, Destined, Sourced, InRange, Offset, LegalRecord}
use Rattle.record.specs.declared.instruction.Instruction.{Instruction}
use Rattle.record.proofs.NumberLaws.{source_at, modifier_here, fit_true, at_room, Roomy, parts_roomy, head_room, source_room}
use Rattle.record.proofs.LegalLaws.{Passed, judge_passes, passes_judge, ok_source, source_is_ok, legal_room}
use Rattle.writing.proofs.RoundTrip.{legal_row, legal_roomy, legal_judge, judged_so}

-- ---- two lists side by side

module _ (P : ℕ → ℕ → Type 0) where
  beside_at : (ps vs : List ℕ) → Beside P ps vs → (j : ℕ) → j < length ps → P (get_or ps j 0) (get_or vs j 0)
  beside_at [] vs b j h = absurd (not-suc-le-zero h)
  beside_at (p ∷ ps) [] b j h = absurd b
  beside_at (p ∷ ps) (v ∷ vs) b zero h = b.0
  beside_at (p ∷ ps) (v ∷ vs) b (suc j) h = beside_at ps vs b.1 j (le_of_suc-le-suc h)

  at_beside : (ps vs : List ℕ) → length vs ≡ length ps → ((j : ℕ) → j < length ps → P (get_or ps j 0) (get_or vs j 0)) → Beside P ps vs
  at_beside [] [] l h = tt
  at_beside [] (v ∷ vs) l h = absurd (omega arith)
  at_beside (p ∷ ps) [] l h = absurd (omega arith)
  at_beside (p ∷ ps) (v ∷ vs) l h = (h 0 (omega arith), at_beside ps vs (omega arith) (λ j m. h (suc j) (omega arith)))

-- ---- offsets

range_room : (z : ℤ) → InRange z → offset_number z < 2 ^ 27
unfolding unsigned
range_room (pos n) h = rw (lt-ltb n 67108864 h) (omega arith)
range_room (negsuc n) h = rw (lt-ltb n 67108864 h) (omega arith)

in_range : (n x : ℕ) (t : Bool) → ltb n 67108864 ≡ t → choose t x 134217728 < 2 ^ 27 → n < 67108864
in_range n x true e l = ltb-true n 67108864 e
in_range n x false e l = absurd (omega arith)

room_range : (z : ℤ) → offset_number z < 2 ^ 27 → InRange z
unfolding unsigned
room_range (pos n) h = in_range n n (ltb n 67108864) refl h
room_range (negsuc n) h = in_range n (134217727 - n) (ltb n 67108864) refl h

offset_room : (t : Bool) (z : ℤ) → Offset t z → offset_number z < 2 ^ width (where_has t offset)
unfolding unsigned
offset_room true z h = range_room z h
offset_room false z h = rw h (omega arith)

room_offset : (t : Bool) (z : ℤ) → offset_number z < 2 ^ width (where_has t offset) → Offset t z
unfolding signed
room_offset true z h = room_range z h
room_offset false z h =
    let e : offset_number z ≡ 0 = omega arith in
    sym (back_again 67108864 (omega arith) z (omega (arith, e))) ∙ ap offset_of e

-- ---- sources and destinations

sourced_room : (i : Instruction) (k b : ℕ) → Sourced i k b → b < 2 ^ width (where_has (ltb k (row_of i.row).sources) source)
sourced_room i k b s = go (ltb k (row_of i.row).sources) refl
  where
    go : (t : Bool) → ltb k (row_of i.row).sources ≡ t → b < 2 ^ width (where_has t source)
    go true e = s.byte
    go false e = omega (arith, s.absent (ltb-false k (row_of i.row).sources e))

room_sourced : (i : Instruction) (k b : ℕ) → b < 2 ^ width (where_has (ltb k (row_of i.row).sources) source)
    → source_ok (row_of i.row) i.page k b ≡ true → Sourced i k b
room_sourced i k b h s =
    record {
      byte = byte (ltb k (row_of i.row).sources) h;
      present = ok_source (row_of i.row) i.page k b s;
      absent = λ l. zero_of (rw (le-ltb k (row_of i.row).sources l) at h);
    }
  where
    byte : (t : Bool) → b < 2 ^ width (where_has t source) → b < 256
    byte true l = l
    byte false l = omega arith

    zero_of : b < 1 → b ≡ 0
    zero_of l = omega arith

register_room : (t : Bool) (g m : ℕ) → Destined t g m → g < 2 ^ width (where_has t register)
register_room true g m d = d.0
register_room false g m d = omega (arith, d.0)

mask_legal : (t : Bool) (g m : ℕ) → Destined t g m → legal_value (where_has t half_mask) m ≡ true
mask_legal true g m d = d.1
mask_legal false g m d = rw d.1

room_destined : (t : Bool) (g m : ℕ) → g < 2 ^ width (where_has t register) → m < 2 ^ width (where_has t half_mask)
    → legal_value (where_has t half_mask) m ≡ true → Destined t g m
room_destined true g m a b s = (a, s)
room_destined false g m a b s = (omega arith, omega arith)

-- ---- a legal record gets no refusal

module _ (i : Instruction) (legal : LegalRecord i) where
  abbrev r : Row
  r = row_of i.row

  mask_ok : legal_value (where_has r.destination half_mask) i.half_mask ≡ true
  mask_ok = mask_legal r.destination i.register i.half_mask legal.destination_legal

  modifier_ok : (j : ℕ) → j < 14 → Allowed (modifier_at r.modifiers (get_or modifier_lows j 0)) (get_or (modifier_list i.modifiers) j 0)
  modifier_ok j h = beside_at (λ (p v : ℕ). Allowed (modifier_at r.modifiers p) v) modifier_lows (modifier_list i.modifiers) legal.modifiers_legal j h

  passed : Passed r i
  passed =
      record {
        flow_ok = legal.flow_legal;
        mask_ok = mask_ok;
        modifiers_ok = modifier_ok;
        sources_ok = λ k h. source_is_ok r i.page k _ (legal.sources_legal k h).present;
      }

  parts : Roomy r i
  parts =
      record {
        heads =
            fit_true (some legal.page_legal
            (some (legal_room i.row legal.in_table flow_place tt i.flow legal.flow_legal)
            (some (register_room r.destination i.register i.half_mask legal.destination_legal)
            (some (legal_room i.row legal.in_table mask_place tt i.half_mask mask_ok)
            (some (offset_room r.offset i.offset legal.offset_legal) none)))));
        sources = at_room r source_places (source_list i.sources) refl (λ k h. rw (source_at k h) (sourced_room i k _ (legal.sources_legal k h)));
        modifiers =
            at_room r modifier_places (modifier_list i.modifiers) refl
            (λ j h. rw (modifier_here j h) (legal_room i.row legal.in_table (modifier_place j) (lt→ltb j 14 h) (get_or (modifier_list i.modifiers) j 0) (modifier_ok j h)));
      }

  pub legal_judged : judge_instruction i ≡ passes
  legal_judged = judged_so i legal.in_table (parts_roomy r i parts) ∙ passes_judge r i passed

-- ---- a record that gets no refusal is legal

module _ (i : Instruction) (e : judge_instruction i ≡ passes) where
  h : i.row < row_count
  h = legal_row i e

  room : roomy (row_of i.row) i ≡ true
  room = legal_roomy i e

  p : Passed (row_of i.row) i
  p = judge_passes (row_of i.row) i (legal_judge i e)

  pub judged_legal : LegalRecord i
  judged_legal =
      record {
        in_table = h;
        page_legal = head_room i h room 0 (omega arith);
        flow_legal = p.flow_ok;
        destination_legal =
            room_destined (row_of i.row).destination i.register i.half_mask (head_room i h room 2 (omega arith)) (head_room i h room 3 (omega arith)) p.mask_ok;
        sources_legal = λ k l. room_sourced i k _ (source_room i h room k l) (p.sources_ok k l);
        modifiers_legal =
            at_beside (λ (p v : ℕ). Allowed (modifier_at (row_of i.row).modifiers p) v) modifier_lows (modifier_list i.modifiers) refl p.modifiers_ok;
        offset_legal = room_offset (row_of i.row).offset i.offset (head_room i h room 4 (omega arith));
      }
