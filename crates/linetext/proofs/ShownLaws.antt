-- The digits of a line say its numbers whole. Assumes nothing.
use mathlib.Core.Path.{◌≡◌, ap, subst⁻¹}
use mathlib.Core.Bool.{Bool, true, false}
use mathlib.Core.List.Memᴰ
use mathlib.Core.List.{List, Memᴰ}
use mathlib.Core.Logic.{⊎_elim}
use Prim.Native.Nat.{ℕ, zero, suc, ◌+◌, ◌*◌, ◌^◌, ◌<◌, ◌≤◌}
use native.Mathlib.Nat.{lt_of_lt_of_le}
use native.Mathlib.Omega.{arith}
use lib.Dec.{T, eqb, ltb, leb, leb→le}
use lib.ListN.{length, get_or, take, drop, replicate, length-take}
use lib.Pow.{are_bytes, pow_mono}
use Rattle.bits.specs.Bytes.{little}
use Rattle.bits.specs.Fields.{choose}
use Rattle.bits.specs.Halves.{halves}
use Rattle.bits.specs.Outcomes.{passes}
use Rattle.bits.proofs.ByteLaws.{little_lt, part_bytes}
use Rattle.bits.proofs.Every.{every, at}
use Rattle.rows.specs.Kinds.{width, source, offset, register, half_mask}
use Rattle.rows.specs.Rows.{Row as TableRow, rows, row_of, no_row, row_count}
use Rattle.rows.specs.Layout.{Place, source_place, offset_place, modifier_place, register_place, mask_place, page_place, flow_place, modifier_at, modifier_indexes, where_has, kind_at}
use Rattle.rows.proofs.TableLaws.{in_table}
use Rattle.rows.proofs.PlaceLaws.{placed}
use Rattle.record.specs.Lists.{source_list, modifier_list}
use Rattle.record.specs.Instructions.{offset_number, number}
use Rattle.record.specs.Legality.{judge_instruction}
use Rattle.record.specs.declared.instruction.Instruction.{Instruction}
use Rattle.record.proofs.NumberLaws.{modifier_room, number_room}
use Rattle.writing.proofs.RoundTrip.{legal_row, legal_roomy, read_legal}
use Rattle.container.specs.Formats.{header_length, word_length, annotation_length, high_offset}
use Rattle.container.specs.Container.{version_of, count_of, entry_of, words_of, annotations_of, annotations_start, eight}
use Rattle.container.proofs.FormatLaws.{known_one}
use Rattle.container.proofs.OpeningLaws.{sized}
use Rattle.safety.specs.Program.{WellFormed, instruction_in, instruction_at, annotation_at}
use Rattle.differences.specs.declared.line.What.{What}
use Rattle.differences.specs.declared.line.What.TheVariants.{Row}
use Rattle.differences.specs.declared.line.Line.{Line}
use Rattle.differences.specs.Records.{fields, field_count, destination, at_bit_8, contents}
use Rattle.differences.specs.Sets.{sets_of, note_of, set_in}
use Rattle.differences.specs.Differences.{instruction_of, word_of, differences}
use Rattle.differences.specs.Asked.{content, Differs, at_version, at_field, at_removed, at_added, at_entry, at_note}
use Rattle.differences.proofs.ListLaws.{kth_member}
use Rattle.differences.proofs.SetLaws.{by_sets}
use Rattle.differences.proofs.DiffersLaws.{fields_length, listed_differs}
use Rattle.diff.proofs.FewLaws.{small_index}
use Rattle.linetext.specs.Asked.{sayable, numbered, Shown, ShownWhole}

-- ---- no modifier is wider than four bits

narrow_test : ℕ → TableRow → Bool
narrow_test k r = every (λ (j _ : ℕ). leb (width (kind_at r (modifier_place j))) 4) 0 modifier_indexes

all_narrow : T (every narrow_test 0 rows)
unfolding narrow_test rows modifier_at
all_narrow = tt

narrow : (k j : ℕ) → k < row_count → j < 14 → width (kind_at (row_of k) (modifier_place j)) ≤ 4
unfolding narrow_test
narrow k j h l =
    leb→le _ 4 (at (λ (j _ : ℕ). leb (width (kind_at (row_of k) (modifier_place j))) 4) modifier_indexes 0 (at narrow_test rows no_row all_narrow k (in_table k h)) j l)

-- one digit is the least that a content has
all_from_16 : T (every (λ (_ : ℕ) (w : What). leb 16 (sayable w)) 0 fields)
unfolding fields
all_from_16 = tt

from_16 : (j : ℕ) → j < field_count → 16 ≤ sayable (get_or fields j Row)
from_16 j h = leb→le 16 _ (at (λ (_ : ℕ) (w : What). leb 16 (sayable w)) fields Row all_from_16 j (rw fields_length h))

-- ---- what the fields of an instruction hold that gets no refusal

module _ (i : Instruction) (legal : judge_instruction i ≡ passes) where
  room : (p : Place) → T (placed p) → number i p < 2 ^ width (kind_at (row_of i.row) p)
  room = number_room i (legal_row i legal) (legal_roomy i legal)

  destination_small : destination i < 256
  destination_small = go (row_of i.row).destination (room register_place tt) (room mask_place tt)
    where
      go : (t : Bool) → i.register < 2 ^ width (where_has t register) → i.half_mask < 2 ^ width (where_has t half_mask) → destination i < 256
      go true h l = omega arith
      go false h l = omega arith

  source_small : (k : ℕ) → T (ltb k 4) → get_or (source_list i.sources) k 0 < 256
  source_small k t = go (ltb k (row_of i.row).sources) (room (source_place k) t)
    where
      go : (u : Bool) → get_or (source_list i.sources) k 0 < 2 ^ width (where_has u source) → get_or (source_list i.sources) k 0 < 256
      go true h = h
      go false h = omega arith

  modifier_small : (j : ℕ) → j < 14 → get_or (modifier_list i.modifiers) j 0 < 16
  modifier_small j l = lt_of_lt_of_le (modifier_room i (legal_row i legal) (legal_roomy i legal) j l) (pow_mono (narrow i.row j (legal_row i legal) l))

  -- of the branch offset 27 bits
  at_8_small : at_bit_8 i < 16 ^ 7
  at_8_small = go (row_of i.row).offset (room offset_place tt)
    where
      m : i.modifiers.m8 < 16
      m = modifier_small 0 (omega arith)

      go : (t : Bool) → offset_number i.offset < 2 ^ width (where_has t offset) → choose t (offset_number i.offset) i.modifiers.m8 < 16 ^ 7
      go true h = omega arith
      go false h = omega (arith, m)

  held : (j : ℕ) → j < field_count → get_or (contents i) j 0 < sayable (get_or fields j Row)
  unfolding contents fields
  held zero h = let r = legal_row i legal in omega arith
  held (suc zero) h = let r = room page_place tt in omega arith
  held (suc (suc zero)) h = room flow_place tt
  held (suc (suc (suc zero))) h = destination_small
  held (suc (suc (suc (suc zero)))) h = source_small 0 tt
  held (suc (suc (suc (suc (suc zero))))) h = source_small 1 tt
  held (suc (suc (suc (suc (suc (suc zero)))))) h = source_small 2 tt
  held (suc (suc (suc (suc (suc (suc (suc zero))))))) h = source_small 3 tt
  held (suc (suc (suc (suc (suc (suc (suc (suc zero)))))))) h = at_8_small
  held (suc (suc (suc (suc (suc (suc (suc (suc (suc j))))))))) h = lt_of_lt_of_le (modifier_small (suc j) (omega arith)) (from_16 (suc (suc (suc (suc (suc (suc (suc (suc (suc j))))))))) h)

-- ---- numbers of eight bytes

small_test : ℕ → ℕ → Bool
small_test n _ = leb (256 ^ n) (16 ^ 16)

small_power : (n : ℕ) → n < 9 → 256 ^ n ≤ 16 ^ 16
unfolding small_test
small_power n h = leb→le _ _ (at small_test (replicate 9 0) 0 tt n h)

part_small : (s : List ℕ) (start : ℕ) → T (are_bytes s) → little (take 8 (drop start s)) < 16 ^ 16
part_small s start t =
    let p = take 8 (drop start s) in
    lt_of_lt_of_le (little_lt p (part_bytes s start 8 t)) (small_power (length p) (omega (arith, length-take 8 (drop start s))))

-- either half of a set
either_small : {x y : ℕ} → x < 16 ^ 16 → y < 16 ^ 16 → (k : ℕ) → set_in k (halves x y) < 16 ^ 16
either_small {x} {y} h l k = go (eqb k 2)
  where
    go : (t : Bool) → choose t y x < 16 ^ 16
    go true = l
    go false = h

module _ (s : List ℕ) (t : T (are_bytes s)) where
  word_small : (i : ℕ) → word_of s i < 16 ^ 16
  unfolding words_of
  word_small i = part_small (words_of s) (8 * i) (part_bytes s (header_length (version_of s)) (word_length * count_of s) t)

  note_small : (i k : ℕ) → set_in k (note_of s i) < 16 ^ 16
  unfolding annotations_of annotation_at
  note_small i =
      let v = version_of s in
      let n = annotations_of s in
      let b = part_bytes s (annotations_start v (count_of s)) (annotation_length v * count_of s) t in
      either_small (part_small n (annotation_length v * i) b) (part_small n (annotation_length v * i + high_offset v) b)

  entry_small : (k : ℕ) → set_in k (entry_of s) < 16 ^ 16
  unfolding entry_of
  entry_small = either_small (part_small s 8 t) (part_small s (8 + high_offset (version_of s)) t)

-- a version that there is has one digit
version_small : (s : List ℕ) → WellFormed s → version_of s < 16
version_small s f = ⊎_elim (λ e. omega (arith, e)) (λ e. omega (arith, e)) (known_one (version_of s) (sized s f.opens).is_known)

-- the sets that are compared have a name
set_named : (v w : ℕ) {k : ℕ} → Memᴰ k (sets_of v w) → T (ltb k 3)
set_named v w {k} =
    by_sets (λ (ks : List ℕ). Memᴰ k ks → T (ltb k 3)) (λ m. one tt (Memᴰ.eq_of_singleton m))
    (λ m. ⊎_elim (one tt) (λ q. one tt (Memᴰ.eq_of_singleton q)) (Memᴰ.cases_cons m)) v w
  where
    one : {j : ℕ} → T (ltb j 3) → k ≡ j → T (ltb k 3)
    one h e = subst⁻¹ (λ (n : ℕ). T (ltb n 3)) e h

content_small : (s : List ℕ) (f : WellFormed s) (i j : ℕ) → i < count_of s → j < field_count → content s i j < sayable (get_or fields j Row)
unfolding instruction_at
content_small s f i j h l =
    let x = f.reads i h in
    let e : instruction_of s i ≡ x.0 = ap instruction_in x.1 in
    rw e (held x.0 (read_legal (eight (words_of s) i) x.0 x.1) j l)

all_numbered : T (every (λ (_ : ℕ) (w : What). numbered w) 0 fields)
unfolding fields
all_numbered = tt

field_numbered : (j : ℕ) → j < field_count → T (numbered (get_or fields j Row))
field_numbered j h = at (λ (_ : ℕ) (w : What). numbered w) fields Row all_numbered j (rw fields_length h)

-- ---- the lines

pub shown_whole : (a b : List ℕ) → ShownWhole a b
shown_whole a b s t f g k l e = show (listed_differs a b m) (small_index a b (record { first = f; second = g }) m)
  where
    m : Memᴰ l (differences a b)
    m = kth_member (differences a b) k e

    show : {l : Line} → Differs a b l → l.index < 2048 → Shown l
    show (at_field i j h n _) q = record {
      index = omega arith;
      what = field_numbered j n;
      first = content_small a f i j (omega arith) n;
      second = content_small b g i j (omega arith) n;
    }
    show (at_removed i _ _) q = record { index = omega arith; what = tt; first = word_small a s i; second = omega arith }
    show (at_added i _ _) q = record { index = omega arith; what = tt; first = omega arith; second = word_small b t i }
    show (at_version _) q = record { index = omega arith; what = tt; first = version_small a f; second = version_small b g }
    show (at_entry k m _) q = record { index = omega arith; what = set_named (version_of a) (version_of b) m; first = entry_small a s k; second = entry_small b t k }
    show (at_note i k _ m _) q = record { index = omega arith; what = set_named (version_of a) (version_of b) m; first = note_small a s i k; second = note_small b t i k }
