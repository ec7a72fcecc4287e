-- The numbers of a word, place by place: those of a word that was read, and those of a record whose numbers have room. Assumes nothing.
use mathlib.Core.Path.{◌≡◌, refl, sym, ap, ap₂, ◌∙◌, subst}
use mathlib.Core.Bool.{Bool, true, false, ◌&&◌}
use mathlib.Core.List.{List, [], ◌∷◌, map}
use Prim.Native.Nat.{ℕ, zero, suc, ◌+◌, ◌^◌, ◌<◌}
use native.Mathlib.Nat.{mod-lt, mod-one, lt_of_lt_of_le, not-suc-le-zero, le_of_suc-le-suc, add-zero, zero-add, add-suc, suc-add}
use native.Mathlib.Omega.{arith}
use lib.Dec.{T, ltb, eqb, ltb→lt}
use lib.ListN.{length, get_or, length-map}
use lib.Pow.{pow_pos, pow_mono}
use borrow.Author.Tests.{eqb-true, lt-ltb}
use Rattle.bits.specs.Fields.{Slot, bits, choose, split, fit}
use Rattle.bits.proofs.Every.{every, at, and_l, and_r, both, true_T}
use Rattle.bits.proofs.FieldLaws.{Fit, none, some, fit_rule, fit_at}
use Rattle.bits.proofs.SignedLaws.{there}
use Rattle.rows.specs.Kinds.{width, second}
use Rattle.rows.specs.Rows.{Row, rows, row_of, no_row, row_count}
use Rattle.rows.specs.Layout.{Place, source_place, offset_place, second_place, modifier_place, register_place, mask_place, opcode_place, page_place, flow_place, where_has, low, kind_at, source_places, modifier_places, places, slot_at, slots, fits}
use Rattle.rows.proofs.TableLaws.{in_table, get_or_map_in}
use Rattle.rows.proofs.PlaceLaws.{placed, index, at_index, index_lt, all_placed}
use Rattle.rows.proofs.RowLaws.{opcode_there, second_there, width_le}
use Rattle.record.specs.Lists.{source_list, modifier_list}
use Rattle.record.specs.Instructions.{number_in, instruction_of, offset_number, offset_of, second_number, number, numbers}
use Rattle.record.specs.Legality.{room, roomy}
use Rattle.record.specs.declared.instruction.Instruction.{Instruction}

-- ---- lists that are mapped from places

every_place : T (all_placed places)
unfolding places
every_place = tt

-- what holds at each place of the list holds along it
module _ (f g : Place → ℕ) where
  alike_from : (n : ℕ) (ps : List Place) → T (every (λ (i : ℕ) (p : Place). placed p) n ps) → ((p : Place) → T (placed p) → f p ≡ g p) → map f ps ≡ map g ps
  alike_from n [] t h = refl
  alike_from n (p ∷ ps) t h =
      let u = every (λ (i : ℕ) (q : Place). placed q) (suc n) ps in
      ap₂ (λ (x : ℕ) (l : List ℕ). x ∷ l) (h p (and_l (placed p) u t)) (alike_from (suc n) ps (and_r (placed p) u t) h)

  pub along : ((p : Place) → T (placed p) → f p ≡ g p) → map f places ≡ map g places
  along h = alike_from 0 places every_place h

  pub pointwise : map f places ≡ map g places → (p : Place) → T (placed p) → f p ≡ g p
  pointwise e p h =
      ap f (sym (at_index p h))
      ∙ sym (get_or_map_in f places (index p) flow_place 0 (index_lt p h))
      ∙ ap (λ (l : List ℕ). get_or l (index p) 0) e
      ∙ get_or_map_in g places (index p) flow_place 0 (index_lt p h)
      ∙ ap g (at_index p h)

-- numbers that have room at each place of the list
fit_from : (r : Row) (f : Place → ℕ) → ((p : Place) → T (placed p) → f p < 2 ^ width (kind_at r p)) → (n : ℕ) (ps : List Place)
    → T (every (λ (i : ℕ) (p : Place). placed p) n ps) → Fit (map (slot_at r) ps) (map f ps)
fit_from r f h n [] t = none
fit_from r f h n (p ∷ ps) t =
    let u = every (λ (i : ℕ) (q : Place). placed q) (suc n) ps in
    some (h p (and_l (placed p) u t)) (fit_from r f h (suc n) ps (and_r (placed p) u t))

-- the numbers of a word at some places
pub split_map : (r : Row) (w : ℕ) (ps : List Place) → split (map (slot_at r) ps) w ≡ map (λ (p : Place). bits w (low p) (width (kind_at r p))) ps
unfolding split
split_map r w [] = refl
split_map r w (p ∷ ps) = ap (λ (l : List ℕ). bits w (low p) (width (kind_at r p)) ∷ l) (split_map r w ps)

pub split_slots : (k w : ℕ) → split (slots (row_of k)) w ≡ map (number_in k w) places
unfolding slots
split_slots k w = split_map (row_of k) w places

-- ---- source k is the k-th source place, and modifier j the j-th modifier place

-- the n numbers from i up
abbrev pub from_up : ℕ → ℕ → List ℕ
from_up i zero = []
from_up i (suc n) = i ∷ from_up (suc i) n

counted : (make : ℕ → Place) (n i k : ℕ) → k < n → get_or (map make (from_up i n)) k flow_place ≡ make (i + k)
counted make zero i k h = absurd (not-suc-le-zero h)
counted make (suc n) i zero h = ap make (sym (add-zero i))
counted make (suc n) i (suc k) h = counted make n (suc i) k (le_of_suc-le-suc h) ∙ ap make (suc-add i k ∙ sym (add-suc i k))

pub source_at : (k : ℕ) → k < 4 → get_or source_places k flow_place ≡ source_place k
source_at k h = counted source_place 4 0 k h ∙ ap source_place (zero-add k)

pub modifier_here : (j : ℕ) → j < 14 → get_or modifier_places j flow_place ≡ modifier_place j
modifier_here j h = counted modifier_place 14 0 j h ∙ ap modifier_place (zero-add j)

module _ (f : Place → ℕ) where
  pub source_in : (k : ℕ) → k < 4 → get_or (map f source_places) k 0 ≡ f (source_place k)
  source_in k h = get_or_map_in f source_places k flow_place 0 h ∙ ap f (source_at k h)

  pub modifier_in : (j : ℕ) → j < 14 → get_or (map f modifier_places) j 0 ≡ f (modifier_place j)
  modifier_in j h = get_or_map_in f modifier_places j flow_place 0 h ∙ ap f (modifier_here j h)

-- ---- the numbers of the instruction that a word says are the numbers of the word

second_eq : (r : Row) (w p : ℕ) → bits w r.second_low r.second_width ≡ r.second
    → choose (eqb r.second_low p) r.second 0 ≡ bits w p (width (where_has (eqb r.second_low p) (second r.second_width)))
second_eq r w p e = go (eqb r.second_low p) refl
  where
    go : (t : Bool) → eqb r.second_low p ≡ t → choose t r.second 0 ≡ bits w p (width (where_has t (second r.second_width)))
    go true q = rw (← eqb-true r.second_low p q) (sym e)
    go false q = sym (mod-one _)

-- a number of a word has room at its place, and an offset's stands for itself
pub number_lt : (k w : ℕ) (p : Place) → number_in k w p < 2 ^ width (kind_at (row_of k) p)
number_lt k w p = mod-lt _ (pow_pos (width (kind_at (row_of k) p)))

offset_back : (k w : ℕ) → k < row_count → offset_number (offset_of (number_in k w offset_place)) ≡ number_in k w offset_place
offset_back k w h =
    there 67108864 (omega arith) (number_in k w offset_place) (lt_of_lt_of_le (number_lt k w offset_place) (pow_mono (width_le k h offset_place tt)))

module _ (k w : ℕ) (h : k < row_count) (e : fits (row_of k) w ≡ true) where
  number_there : (p : Place) → T (placed p) → number (instruction_of k w) p ≡ number_in k w p
  number_there (source_place j) t = source_in (number_in k w) j (ltb→lt j 4 t)
  number_there offset_place t = offset_back k w h
  number_there (second_place p) t = second_eq (row_of k) w p (second_there (row_of k) w e)
  number_there (modifier_place j) t = modifier_in (number_in k w) j (ltb→lt j 14 t)
  number_there register_place t = refl
  number_there mask_place t = refl
  number_there opcode_place t = sym (opcode_there (row_of k) w e)
  number_there page_place t = refl
  number_there flow_place t = refl

  pub numbers_split : numbers (instruction_of k w) ≡ split (slots (row_of k)) w
  unfolding numbers
  numbers_split = along (number (instruction_of k w)) (number_in k w) number_there ∙ sym (split_slots k w)

-- ---- room, place by place

pub fit_true : {ss : List Slot} {vs : List ℕ} → Fit ss vs → fit ss vs ≡ true
unfolding fit
fit_true none = refl
fit_true (some h f) = rw (lt-ltb _ _ h) (fit_true f)

module _ (r : Row) (ps : List Place) (vs : List ℕ) (e : room r ps vs ≡ true) where
  pub room_at : (j : ℕ) → j < length ps → get_or vs j 0 < 2 ^ width (kind_at r (get_or ps j flow_place))
  room_at j h =
      subst (λ (s : Slot). get_or vs j 0 < 2 ^ s.width) (get_or_map_in (slot_at r) ps j flow_place (slot_at r flow_place) h)
      (fit_at (fit_rule (map (slot_at r) ps) vs (true_T e)) j (slot_at r flow_place) (rw (length-map ps (slot_at r)) h))

pub at_room : (r : Row) (ps : List Place) (vs : List ℕ) → length vs ≡ length ps
    → ((j : ℕ) → j < length ps → get_or vs j 0 < 2 ^ width (kind_at r (get_or ps j flow_place))) → room r ps vs ≡ true
unfolding fit
at_room r [] [] l h = refl
at_room r [] (v ∷ vs) l h = absurd (omega arith)
at_room r (p ∷ ps) [] l h = absurd (omega arith)
at_room r (p ∷ ps) (v ∷ vs) l h = rw (lt-ltb _ _ (h 0 (omega arith))) (at_room r ps vs (omega arith) (λ j m. h (suc j) (omega arith)))

-- the places of a record that stand alone, and what it has there
abbrev pub head_places : List Place
head_places = page_place ∷ flow_place ∷ register_place ∷ mask_place ∷ offset_place ∷ []

abbrev pub head_numbers : Instruction → List ℕ
head_numbers i = i.page ∷ i.flow ∷ i.register ∷ i.half_mask ∷ offset_number i.offset ∷ []

module _ (r : Row) (i : Instruction) where
  pub record Roomy : Type 0 where
    pub heads : room r head_places (head_numbers i) ≡ true
    pub sources : room r source_places (source_list i.sources) ≡ true
    pub modifiers : room r modifier_places (modifier_list i.modifiers) ≡ true

  pub roomy_parts : roomy r i ≡ true → Roomy
  unfolding roomy
  roomy_parts e =
      let a = both (room r head_places (head_numbers i)) _ e in
      let b = both (room r source_places (source_list i.sources)) _ a.1 in
      record { heads = a.0; sources = b.0; modifiers = b.1 }

  pub parts_roomy : Roomy → roomy r i ≡ true
  unfolding roomy
  parts_roomy p = rw (p.heads, p.sources) p.modifiers

-- ---- opcodes and secondary opcodes have room

head_test : ℕ → Row → Bool
head_test k r = ltb r.opcode (2 ^ 9) && ltb r.second (2 ^ r.second_width)

heads_right : T (every head_test 0 rows)
unfolding head_test rows
heads_right = tt

tested : (k : ℕ) → k < row_count → T (head_test k (row_of k))
tested k h = at head_test rows no_row heads_right k (in_table k h)

opcode_room : (k : ℕ) → k < row_count → (row_of k).opcode < 2 ^ 9
unfolding head_test
opcode_room k h = ltb→lt _ _ (and_l (ltb (row_of k).opcode (2 ^ 9)) (ltb (row_of k).second (2 ^ (row_of k).second_width)) (tested k h))

second_room : (k p : ℕ) → k < row_count → second_number (row_of k) p < 2 ^ width (where_has (eqb (row_of k).second_low p) (second (row_of k).second_width))
unfolding head_test
second_room k p h = go (eqb (row_of k).second_low p)
  where
    go : (t : Bool) → choose t (row_of k).second 0 < 2 ^ width (where_has t (second (row_of k).second_width))
    go true = ltb→lt _ _ (and_r (ltb (row_of k).opcode (2 ^ 9)) (ltb (row_of k).second (2 ^ (row_of k).second_width)) (tested k h))
    go false = omega arith

-- ---- the numbers of a record that has room

module _ (i : Instruction) (h : i.row < row_count) (e : roomy (row_of i.row) i ≡ true) where
  abbrev r : Row
  r = row_of i.row

  parts : Roomy r i
  parts = roomy_parts r i e

  pub head_room : (j : ℕ) → j < 5 → get_or (head_numbers i) j 0 < 2 ^ width (kind_at r (get_or head_places j flow_place))
  head_room j l = room_at r head_places (head_numbers i) parts.heads j l

  pub source_room : (k : ℕ) → k < 4 → get_or (source_list i.sources) k 0 < 2 ^ width (kind_at r (source_place k))
  source_room k l = subst (λ (p : Place). get_or (source_list i.sources) k 0 < 2 ^ width (kind_at r p)) (source_at k l) (room_at r source_places (source_list i.sources) parts.sources k l)

  pub modifier_room : (j : ℕ) → j < 14 → get_or (modifier_list i.modifiers) j 0 < 2 ^ width (kind_at r (modifier_place j))
  modifier_room j l =
      subst (λ (p : Place). get_or (modifier_list i.modifiers) j 0 < 2 ^ width (kind_at r p)) (modifier_here j l) (room_at r modifier_places (modifier_list i.modifiers) parts.modifiers j l)

  pub number_room : (p : Place) → T (placed p) → number i p < 2 ^ width (kind_at r p)
  number_room (source_place k) t = source_room k (ltb→lt k 4 t)
  number_room offset_place t = head_room 4 (omega arith)
  number_room (second_place p) t = second_room i.row p h
  number_room (modifier_place j) t = modifier_room j (ltb→lt j 14 t)
  number_room register_place t = head_room 2 (omega arith)
  number_room mask_place t = head_room 3 (omega arith)
  number_room opcode_place t = opcode_room i.row h
  number_room page_place t = head_room 0 (omega arith)
  number_room flow_place t = head_room 1 (omega arith)

  pub roomy_fit : Fit (slots (row_of i.row)) (numbers i)
  unfolding slots numbers
  roomy_fit = fit_from r (number i) number_room 0 places every_place

-- ---- the numbers of a word have room

split_room : (k w : ℕ) (ps : List Place) → Fit (map (slot_at (row_of k)) ps) (map (number_in k w) ps)
split_room k w [] = none
split_room k w (p ∷ ps) = some (number_lt k w p) (split_room k w ps)

pub read_roomy : (k w : ℕ) → k < row_count → roomy (row_of k) (instruction_of k w) ≡ true
read_roomy k w h =
    parts_roomy (row_of k) (instruction_of k w)
    (record {
      heads = rw (offset_back k w h) (fit_true (split_room k w head_places));
      sources = fit_true (split_room k w source_places);
      modifiers = fit_true (split_room k w modifier_places);
    })
