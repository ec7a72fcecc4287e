-- What the fields of an instruction hold determines its word, and so the instruction. Assumes nothing.
use mathlib.Core.Path.{◌≡◌, refl, sym, ap, ap₂, ◌∙◌}
use mathlib.Core.Bool.{Bool, true, false}
use mathlib.Core.List.{List, ◌∷◌}
use Prim.Native.Nat.{ℕ, zero, suc, ◌<◌, ◌^◌}
use native.Mathlib.Omega.{arith}
use lib.Dec.{T, eqb, eqb→eq, ltb→lt}
use lib.ListN.{get_or, drop, get_or-append}
use lib.Pow.{are_bytes}
use Rattle.bits.specs.Bytes.{little_bytes}
use Rattle.bits.specs.Fields.{choose, join}
use Rattle.bits.specs.Outcomes.{gives, passes}
use Rattle.bits.proofs.Every.{every, at}
use Rattle.rows.specs.Kinds.{width, register}
use Rattle.rows.specs.Rows.{Row, rows, row_of, no_row, row_count}
use Rattle.rows.specs.Layout.{Place, source_place, offset_place, second_place, modifier_place, register_place, mask_place, opcode_place, page_place, flow_place, modifier_at, where_has, kind_at, slots}
use Rattle.rows.proofs.TableLaws.{in_table}
use Rattle.rows.proofs.PlaceLaws.{placed}
use Rattle.record.specs.Lists.{source_list, modifier_list}
use Rattle.record.specs.Instructions.{offset_number, second_number, instruction_of, number, numbers, word_of}
use Rattle.record.specs.Legality.{judge_instruction}
use Rattle.record.specs.declared.instruction.Instruction.{Instruction}
use Rattle.record.proofs.NumberLaws.{along, number_room}
use Rattle.reading.specs.Reader.{read}
use Rattle.writing.proofs.RoundTrip.{legal_row, legal_roomy, instruction_there, read_legal, written_read}
use Rattle.differences.specs.Records.{at_bit_8, contents}

-- a row that has an offset has no modifier at bit 8
alone_test : ℕ → Row → Bool
alone_test k r = choose r.offset (eqb (width (kind_at r (modifier_place 0))) 0) true

all_alone : T (every alone_test 0 rows)
unfolding alone_test rows modifier_at
all_alone = tt

alone : (k : ℕ) → k < row_count → (row_of k).offset ≡ true → width (kind_at (row_of k) (modifier_place 0)) ≡ 0
unfolding alone_test
alone k h e = eqb→eq _ _ (rw e at (at alone_test rows no_row all_alone k (in_table k h)))

-- an instruction that gets no refusal
module _ (i : Instruction) (legal : judge_instruction i ≡ passes) where
  room : (p : Place) → T (placed p) → number i p < 2 ^ width (kind_at (row_of i.row) p)
  room = number_room i (legal_row i legal) (legal_roomy i legal)

  register_small : i.register < 64
  register_small = go (row_of i.row).destination (room register_place tt)
    where
      go : (t : Bool) → i.register < 2 ^ width (where_has t register) → i.register < 64
      go true h = h
      go false h = omega arith

  -- of the two that could stand at bit 8, the one that the row lacks is 0
  no_modifier : (row_of i.row).offset ≡ true → i.modifiers.m8 ≡ 0
  no_modifier e =
      let h : i.modifiers.m8 < 2 ^ 0 = rw (alone i.row (legal_row i legal) e) at (room (modifier_place 0) tt) in
      omega arith

  no_offset : (row_of i.row).offset ≡ false → offset_number i.offset ≡ 0
  no_offset e =
      let h : offset_number i.offset < 2 ^ 0 = rw e at (room offset_place tt) in
      omega arith

-- two of them, whose fields hold the same
module _ (x y : Instruction) (p : judge_instruction x ≡ passes) (q : judge_instruction y ≡ passes) (e : contents x ≡ contents y) where
  held : (j : ℕ) → get_or (contents x) j 0 ≡ get_or (contents y) j 0
  held j = ap (λ (l : List ℕ). get_or l j 0) e

  same_row : x.row ≡ y.row
  unfolding contents
  same_row = held 0

  same_destination : (x.register ≡ y.register) × (x.half_mask ≡ y.half_mask)
  unfolding contents
  same_destination =
      let a = register_small x p in
      let b = register_small y q in
      let d = held 3 in
      (omega arith, omega arith)

  same_at_8 : (offset_number x.offset ≡ offset_number y.offset) × (x.modifiers.m8 ≡ y.modifiers.m8)
  unfolding contents
  same_at_8 = go (row_of x.row).offset refl (ap (λ (k : ℕ). (row_of k).offset) (sym same_row)) (held 8)
    where
      go : (t : Bool) → (row_of x.row).offset ≡ t → (row_of y.row).offset ≡ (row_of x.row).offset → at_bit_8 x ≡ at_bit_8 y
          → (offset_number x.offset ≡ offset_number y.offset) × (x.modifiers.m8 ≡ y.modifiers.m8)
      go true f g h = (rw (g, f) at h, no_modifier x p f ∙ sym (no_modifier y q (g ∙ f)))
      go false f g h = (no_offset x p f ∙ sym (no_offset y q (g ∙ f)), rw (g, f) at h)

  same_number : (r : Place) → T (placed r) → number x r ≡ number y r
  unfolding contents
  same_number (source_place k) t =
      let h = ltb→lt k 4 t in
      sym (get_or-append (source_list x.sources) (at_bit_8 x ∷ drop 1 (modifier_list x.modifiers)) 0 k h)
      ∙ held (suc (suc (suc (suc k))))
      ∙ get_or-append (source_list y.sources) (at_bit_8 y ∷ drop 1 (modifier_list y.modifiers)) 0 k h
  same_number offset_place t = same_at_8.0
  same_number (second_place b) t = ap (λ (k : ℕ). second_number (row_of k) b) same_row
  same_number (modifier_place zero) t = same_at_8.1
  same_number (modifier_place (suc j)) t = held (suc (suc (suc (suc (suc (suc (suc (suc (suc j)))))))))
  same_number register_place t = same_destination.0
  same_number mask_place t = same_destination.1
  same_number opcode_place t = ap (λ (k : ℕ). (row_of k).opcode) same_row
  same_number page_place t = held 1
  same_number flow_place t = held 2

  same_word : word_of x ≡ word_of y
  unfolding numbers
  same_word = ap₂ (λ (k : ℕ) (l : List ℕ). join (slots (row_of k)) l) same_row (along (number x) (number y) same_number)

  -- and each is what its word says
  pub same_record : x ≡ y
  same_record =
      sym (instruction_there x (legal_row x p) (legal_roomy x p))
      ∙ ap₂ instruction_of same_row same_word
      ∙ instruction_there y (legal_row y q) (legal_roomy y q)

-- the eight bytes that an instruction was read from
pub same_eight : (c d : List ℕ) → T (are_bytes c) → T (are_bytes d) → (x y : Instruction) → read c ≡ gives x → read d ≡ gives y → contents x ≡ contents y → c ≡ d
same_eight c d t u x y p q e =
    sym (written_read c x p t) ∙ ap (little_bytes 8) (same_word x y (read_legal c x p) (read_legal d y q) e) ∙ written_read d y q u
