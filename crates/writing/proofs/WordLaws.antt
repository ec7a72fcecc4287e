-- The word of a record, part by part, as the writer puts it together. Assumes nothing.
use mathlib.Core.Path.{◌≡◌, refl, sym, ap}
use mathlib.Core.Bool.{Bool, true, false}
use mathlib.Core.Logic.{⊎_elim}
use mathlib.Core.List.{List, map}
use Prim.Native.Nat.{ℕ, ◌+◌, ◌*◌, ◌^◌, ◌<◌, ◌≤◌, ◌%◌}
use native.Mathlib.Nat.{mul-le-mul, zero-mul, lt_of_lt_of_le}
use native.Mathlib.Numerals.{add-one}
use native.Mathlib.Omega.{arith}
use lib.Dec.{ltb, ltb→lt}
use lib.ListN.{length, get_or, drop}
use lib.Pow.{pow_pos, pow_mono, shl_exact}
use Rattle.bits.specs.Bytes.{little}
use Rattle.bits.specs.Fields.{Slot, slot, bits, choose, join}
use Rattle.bits.proofs.FieldLaws.{join_step, join_end}
use Rattle.rows.specs.Kinds.{Kind, width, register, half_mask}
use Rattle.rows.specs.Rows.{Row, row_of, row_count}
use Rattle.rows.specs.Layout.{modifier_lows, where_has, places, slots}
use Rattle.rows.specs.Served.Table.{shape}
use Rattle.rows.proofs.RowLaws.{secondary}
use Rattle.rows.proofs.SetOfLaws.{upto_at}
use Rattle.rows.proofs.TableLaws.{get_or_map_in}
use Rattle.record.specs.Lists.{source_list, modifier_list}
use Rattle.record.specs.Instructions.{offset_number, second_number, numbers, word_of}
use Rattle.record.specs.Legality.{roomy}
use Rattle.record.specs.declared.instruction.Instruction.{Instruction}
use Rattle.record.proofs.NumberLaws.{head_room}
use Rattle.record.proofs.ShapeLaws.{second_low_there}
use Rattle.writing.specs.Served.Parts.{modifier_word}
use Rattle.writing.proofs.RoundTrip.{word_lt}

-- ---- modifiers

pub low_lt : (j : ℕ) → j < 14 → get_or modifier_lows j 0 < 40
low_lt j h = ltb→lt _ _ (upto_at 14 (λ (i : ℕ). ltb (get_or modifier_lows i 0) 40) tt j h)

-- the modifiers' slots, as far as a word's sum needs them
abbrev pub low_slots : List Slot
low_slots = map (λ (p : ℕ). slot p 0) modifier_lows

-- what modifier j, which is v, adds at its lowest bit x
module _ (m : List ℕ) (j : ℕ) {x v : ℕ} (h : j < 14) (l : length m ≡ 14) (ex : x ≡ get_or modifier_lows j 0) (ev : v ≡ get_or m j 0) (b : v < 256) where
  x_lt : x < 40
  x_lt = omega (arith, ex, low_lt j h)

  exact : v * 2 ^ x % 2 ^ 64 ≡ v * 2 ^ x
  exact = shl_exact 8 x 64 b (omega (arith, x_lt))

  pub modifier_small : v * 2 ^ x % 2 ^ 64 ≤ 2 ^ 47
  modifier_small = rw exact (mul-le-mul {n₂ = 2 ^ 8} (omega arith) (pow_mono {j = 39} (omega (arith, x_lt))))

  pub modifier_step : v * 2 ^ x % 2 ^ 64 + join (drop (j + 1) low_slots) (drop (j + 1) m) ≡ join (drop j low_slots) (drop j m)
  modifier_step =
      rw (exact, ex, ev, ← ap (λ (s : Slot). s.low) (get_or_map_in (λ (p : ℕ). slot p 0) modifier_lows j 0 (slot 0 0) h), add-one j)
      (sym (join_step low_slots m j (slot 0 0) h (omega arith)))

pub modifiers_end : (m : List ℕ) → join (drop 14 low_slots) (drop 14 m) ≡ 0
modifiers_end m = join_end low_slots m 14 refl

-- ---- the opcodes: the secondary opcode stands at one of its two places

seconds : (k : ℕ) → k < row_count → second_number (row_of k) 16 * 2 ^ 16 + second_number (row_of k) 24 * 2 ^ 24 ≡ (row_of k).second * 2 ^ (row_of k).second_low
seconds k h = ⊎_elim (λ e. rw e (omega arith)) (λ t. ⊎_elim (λ e. rw e (omega arith)) nowhere t) (secondary k h).somewhere
  where
    nothing : (t : Bool) → choose {A = ℕ} t 0 0 ≡ 0
    nothing true = refl
    nothing false = refl

    nowhere : ((row_of k).second_width ≡ 0) × ((row_of k).second ≡ 0)
        → second_number (row_of k) 16 * 2 ^ 16 + second_number (row_of k) 24 * 2 ^ 24 ≡ (row_of k).second * 2 ^ (row_of k).second_low
    nowhere e = rw e.1 (simp (nothing, zero-mul))

-- ---- the whole

-- what has room where a kind may stand has room in that kind
where_lt : (t : Bool) (x : Kind) {v : ℕ} → v < 2 ^ width (where_has t x) → v < 2 ^ width x
where_lt true x h = h
where_lt false x h = lt_of_lt_of_le h (pow_pos (width x))

module _ (i : Instruction) (h : i.row < row_count) (e : roomy (row_of i.row) i ≡ true) where
  abbrev r : Row
  r = row_of i.row

  pub heads_small : (i.page < 4) × (i.flow < 16) × (i.register < 64) × (i.half_mask < 4)
  heads_small = (
    head_room i h e 0 (omega arith),
    head_room i h e 1 (omega arith),
    where_lt r.destination register (head_room i h e 2 (omega arith)),
    where_lt r.destination half_mask (head_room i h e 3 (omega arith)),
  )

  abbrev opcodes : ℕ
  opcodes = r.opcode * 2 ^ 48 + r.second * 2 ^ bits (shape r) 33 6

  abbrev heads : ℕ
  heads = i.register * 2 ^ 40 + i.half_mask * 2 ^ 46 + i.page * 2 ^ 57 + i.flow * 2 ^ 59

  pub whole : opcodes + heads + (little (source_list i.sources) + offset_number i.offset * 2 ^ 8 + modifier_word (modifier_list i.modifiers)) ≡ word_of i
  unfolding join little slots places numbers
  whole = rw (second_low_there i.row h, ← seconds i.row h) (omega arith)

  pub opcodes_lt : opcodes < 2 ^ 64
  opcodes_lt = omega (arith, whole, word_lt i h e)
