-- Reading and writing undo one another, and the numbers that refusals of writing have: 15 is never given. Assumes nothing.
use mathlib.Core.Path.{◌≡◌, refl, sym, ap, ap₂, ◌∙◌}
use mathlib.Core.Bool.{Bool, true}
use mathlib.Core.List.{List, [], ◌∷◌, map}
use mathlib.Core.Logic.{inr, ⊎_elim, ◌≢◌}
use Prim.Native.Nat.{ℕ, ◌<◌, ◌^◌}
use native.Mathlib.Nat.{mod-one, lt_of_lt_of_le}
use native.Mathlib.Omega.{arith}
use lib.Dec.{T, ltb, leb, eqb, lt→ltb, lit≤}
use lib.IntN.{ℤ, pos, negsuc}
use lib.ListN.{length, get_or}
use lib.Seq.{ext_get_or}
use lib.Pow.{pow_mono, are_bytes}
use borrow.Author.Tests.{eq-eqb, lt-ltb, eqb-true, ltb-true, leb-true}
use Rattle.bits.specs.Fields.{bits, choose, join}
use Rattle.bits.specs.Bytes.{little, little_bytes}
use Rattle.bits.specs.Outcomes.{Outcome, gives, refuses, passes, require, ◌then◌}
use Rattle.bits.proofs.Every.{clash, both}
use Rattle.bits.proofs.OutcomeLaws.{never, then_gives, required, Refusals, on}
use Rattle.bits.proofs.ByteLaws.{little_lt, bytes_of_little, little_of_bytes, length_bytes}
use Rattle.bits.proofs.FieldLaws.{Fit, split_join, join_lt, join_blank}
use Rattle.bits.proofs.SignedLaws.{back_again}
use Rattle.rows.specs.Kinds.{width, second}
use Rattle.rows.specs.Rows.{Row, rows, row_of, row_count}
use Rattle.rows.specs.Layout.{Place, source_place, offset_place, second_place, modifier_place, register_place, mask_place, opcode_place, page_place, flow_place, where_has, source_places, modifier_places, slots, find}
use Rattle.rows.proofs.PlaceLaws.{placed}
use Rattle.rows.proofs.RowLaws.{row_apart, secondary, width_le}
use Rattle.rows.proofs.FindLaws.{find_fits, find_row}
use Rattle.record.specs.Answers.{refusal}
use Rattle.record.specs.Lists.{source_list, sources_of, modifier_list, modifiers_of}
use Rattle.record.specs.Instructions.{offset_of, number_in, instruction_of, number, numbers, word_of}
use Rattle.record.specs.Legality.{judge, roomy, judge_instruction}
use Rattle.reading.specs.Reader.{lowest_stray, read_row, read_number, read}
use Rattle.writing.specs.Writer.{same_list, same_offset, heads, same, is_record, write, stored}
use Rattle.record.specs.declared.instruction.Instruction.{Instruction}
use Rattle.record.specs.declared.answer.Refusal.{Refusal}
use Rattle.record.proofs.NumberLaws.{pointwise, split_slots, source_in, modifier_in, numbers_split, number_room, roomy_fit, read_roomy}
use Rattle.record.proofs.NumberedLaws.{OfWriting, instruction_numbers}
use Rattle.reading.proofs.StrayLaws.{clean_stray, stray_le, join_of_clean}

-- ---- an instruction that gets no refusal has its row in the table and room for its numbers, and what it has is legal

module _ (i : Instruction) (legal : judge_instruction i ≡ passes) where
  pub legal_row : i.row < row_count
  unfolding judge_instruction
  legal_row = ltb-true _ _ (required (ltb i.row row_count) (refusal 2 0) (then_gives (require (ltb i.row row_count) (refusal 2 0)) _ tt legal).0)

  rest : (require (roomy (row_of i.row) i) (refusal 9 0) then judge (row_of i.row) i) ≡ passes
  unfolding judge_instruction
  rest = (then_gives (require (ltb i.row row_count) (refusal 2 0)) _ tt legal).1

  pub legal_roomy : roomy (row_of i.row) i ≡ true
  legal_roomy = required (roomy (row_of i.row) i) (refusal 9 0) (then_gives (require (roomy (row_of i.row) i) (refusal 9 0)) _ tt rest).0

  pub legal_judge : judge (row_of i.row) i ≡ passes
  legal_judge = (then_gives (require (roomy (row_of i.row) i) (refusal 9 0)) _ tt rest).1

pub judged_so : (i : Instruction) → i.row < row_count → roomy (row_of i.row) i ≡ true → judge_instruction i ≡ judge (row_of i.row) i
unfolding judge_instruction ◌then◌
judged_so i h e = rw (lt-ltb i.row row_count h, e)

-- ---- `same` is equality of records

list_refl : (xs : List ℕ) → same_list xs xs ≡ true
unfolding same_list
list_refl [] = refl
list_refl (x ∷ xs) = rw (eq-eqb x x refl) (list_refl xs)

pub list_eq : (xs ys : List ℕ) → same_list xs ys ≡ true → xs ≡ ys
unfolding same_list
list_eq [] [] e = refl
list_eq [] (y ∷ ys) e = clash (sym e)
list_eq (x ∷ xs) [] e = clash (sym e)
list_eq (x ∷ xs) (y ∷ ys) e =
    let t = both (eqb x y) (same_list xs ys) e in
    ap₂ (λ (a : ℕ) (l : List ℕ). a ∷ l) (eqb-true x y t.0) (list_eq xs ys t.1)

pub offset_refl : (z : ℤ) → same_offset z z ≡ true
offset_refl (pos n) = eq-eqb n n refl
offset_refl (negsuc n) = eq-eqb n n refl

pub offset_eq : (a b : ℤ) → same_offset a b ≡ true → a ≡ b
offset_eq (pos m) (pos n) e = ap pos (eqb-true m n e)
offset_eq (pos m) (negsuc n) e = clash (sym e)
offset_eq (negsuc m) (pos n) e = clash (sym e)
offset_eq (negsuc m) (negsuc n) e = ap negsuc (eqb-true m n e)

pub same_refl : (a : Instruction) → same a a ≡ true
unfolding same
same_refl a = rw (list_refl (heads a), list_refl (source_list a.sources), list_refl (modifier_list a.modifiers)) (offset_refl a.offset)

pub same_eq : (a b : Instruction) → same a b ≡ true → a ≡ b
unfolding same
same_eq a b e =
    let t = both (same_list (heads a) (heads b)) _ e in
    let u = both (same_list (source_list a.sources) (source_list b.sources)) _ t.1 in
    let v = both (same_list (modifier_list a.modifiers) (modifier_list b.modifiers)) _ u.1 in
    let l = list_eq (heads a) (heads b) t.0 in
    λ j. record {
      row = get_or (l j) 0 0;
      page = get_or (l j) 1 0;
      flow = get_or (l j) 2 0;
      register = get_or (l j) 3 0;
      half_mask = get_or (l j) 4 0;
      sources = sources_of (list_eq (source_list a.sources) (source_list b.sources) u.0 j);
      modifiers = modifiers_of (list_eq (modifier_list a.modifiers) (modifier_list b.modifiers) v.0 j);
      offset = offset_eq a.offset b.offset v.1 j;
    }

-- ---- the word of an instruction whose numbers have room

at_second : (q : Row) (w p : ℕ) → q.second_low ≡ p
    → bits w p (width (where_has (eqb q.second_low p) (second q.second_width))) ≡ choose (eqb q.second_low p) q.second 0
    → bits w q.second_low q.second_width ≡ q.second
at_second q w p e h = rw e (rw (eq-eqb q.second_low p e) at h)

module _ (i : Instruction) (on_table : i.row < row_count) (room : roomy (row_of i.row) i ≡ true) where
  abbrev r : Row
  r = row_of i.row

  fitting : Fit (slots (row_of i.row)) (numbers i)
  fitting = roomy_fit i on_table room

  -- the word has the instruction's number at each place
  pub number_back : (p : Place) → T (placed p) → number_in i.row (word_of i) p ≡ number i p
  unfolding numbers
  number_back =
      pointwise (number_in i.row (word_of i)) (number i) (sym (split_slots i.row (word_of i)) ∙ split_join (row_apart i.row on_table) fitting)

  second_back : bits (word_of i) r.second_low r.second_width ≡ r.second
  second_back =
      ⊎_elim (λ e. at_second r (word_of i) 16 e (number_back (second_place 16) tt))
      (λ t. ⊎_elim (λ e. at_second r (word_of i) 24 e (number_back (second_place 24) tt)) nowhere t)
      (secondary i.row on_table).somewhere
    where
      nowhere : (r.second_width ≡ 0) × (r.second ≡ 0) → bits (word_of i) r.second_low r.second_width ≡ r.second
      nowhere e = rw (e.0, e.1) (mod-one _)

  found_there : find rows 0 (word_of i) ≡ i.row
  found_there = find_row (word_of i) i.row on_table (rw (eq-eqb _ _ (number_back opcode_place tt), eq-eqb _ _ second_back))

  offset_there : offset_of (number_in i.row (word_of i) offset_place) ≡ i.offset
  offset_there =
      ap offset_of (number_back offset_place tt)
      ∙ back_again 67108864 (omega arith) i.offset
      (lt_of_lt_of_le (number_room i on_table room offset_place tt) (pow_mono (width_le i.row on_table offset_place tt)))

  sources_there : map (number_in i.row (word_of i)) source_places ≡ source_list i.sources
  sources_there =
      ext_get_or 0 _ (source_list i.sources) refl
      (λ k h. source_in (number_in i.row (word_of i)) k h ∙ number_back (source_place k) (lt→ltb k 4 h))

  modifiers_there : map (number_in i.row (word_of i)) modifier_places ≡ modifier_list i.modifiers
  modifiers_there =
      ext_get_or 0 _ (modifier_list i.modifiers) refl
      (λ j h. modifier_in (number_in i.row (word_of i)) j h ∙ number_back (modifier_place j) (lt→ltb j 14 h))

  pub instruction_there : instruction_of i.row (word_of i) ≡ i
  instruction_there =
      λ j. record {
        row = i.row;
        page = number_back page_place tt j;
        flow = number_back flow_place tt j;
        register = number_back register_place tt j;
        half_mask = number_back mask_place tt j;
        sources = sources_of (sources_there j);
        modifiers = modifiers_of (modifiers_there j);
        offset = offset_there j;
      }

  pub word_lt : word_of i < 2 ^ 64
  word_lt = join_lt (row_apart i.row on_table) fitting

  straight : lowest_stray i.row (word_of i) ≡ 64
  straight = clean_stray i.row (word_of i) (λ b l q. join_blank b (row_apart i.row on_table) fitting q)

  -- the word gets what the record gets, or reads as the record
  pub reads_as : read_number (word_of i) ≡ (judge (row_of i.row) i then gives i)
  unfolding read_row ◌then◌
  reads_as = rw (found_there, lt-ltb i.row row_count on_table, straight, instruction_there)

-- ---- the word of an instruction that gets no refusal

module _ (i : Instruction) (legal : judge_instruction i ≡ passes) where
  -- the word reads as the instruction
  pub reads_back : read_number (word_of i) ≡ gives i
  unfolding ◌then◌
  reads_back = reads_as i (legal_row i legal) (legal_roomy i legal) ∙ rw (legal_judge i legal)

  pub read_written : read (little_bytes 8 (word_of i)) ≡ gives i
  unfolding read ◌then◌
  read_written = rw (length_bytes 8 (word_of i), little_of_bytes 8 (word_of i) (word_lt i (legal_row i legal) (legal_roomy i legal))) reads_back

  -- so 15 is never given
  pub never_15 : is_record (read_number (word_of i)) i ≡ true
  never_15 = rw reads_back (same_refl i)

-- ---- a word that is read

pub record Parsed (bs : List ℕ) (i : Instruction) : Type 0 where
  pub eight : length bs ≡ 8
  pub row : find rows 0 (little bs) < row_count
  pub clean : lowest_stray (find rows 0 (little bs)) (little bs) ≡ 64
  pub legal : judge (row_of (find rows 0 (little bs))) (instruction_of (find rows 0 (little bs)) (little bs)) ≡ passes
  pub same : i ≡ instruction_of (find rows 0 (little bs)) (little bs)

given_eq : {x y : Instruction} → ◌≡◌ {A = Outcome Refusal Instruction} (gives x) (gives y) → y ≡ x
given_eq {x} {y} e = cc

pub parsed : (bs : List ℕ) (i : Instruction) → read bs ≡ gives i → Parsed bs i
unfolding read read_row
parsed bs i e =
    let w = little bs in
    let k = find rows 0 w in
    let a = then_gives (require (eqb (length bs) 8) (refusal 1 0)) (read_row k w) i e in
    let b = then_gives (require (ltb k row_count) (refusal 2 0)) _ i a.1 in
    let c = then_gives (require (leb 64 (lowest_stray k w)) (refusal 3 (lowest_stray k w))) _ i b.1 in
    let d = then_gives (judge (row_of k) (instruction_of k w)) (gives (instruction_of k w)) i c.1 in
    record {
      eight = eqb-true _ _ (required _ (refusal 1 0) a.0);
      row = ltb-true _ _ (required _ (refusal 2 0) b.0);
      clean = omega (arith, stray_le k w, leb-true 64 (lowest_stray k w) (required _ (refusal 3 (lowest_stray k w)) c.0));
      legal = d.0;
      same = given_eq d.1;
    }

-- an instruction that was read gets no refusal, and its word is the word
module _ (bs : List ℕ) (i : Instruction) (e : read bs ≡ gives i) where
  abbrev w : ℕ
  w = little bs

  abbrev k : ℕ
  k = find rows 0 (little bs)

  f : Parsed bs i
  f = parsed bs i e

  pub read_legal : judge_instruction i ≡ passes
  read_legal = ap judge_instruction f.same ∙ judged_so (instruction_of k w) f.row (read_roomy k w f.row) ∙ f.legal

  module _ (bytes : T (are_bytes bs)) where
    small : w < 2 ^ 64
    small = rw f.eight at (little_lt bs bytes)

    same_word : word_of i ≡ w
    same_word =
        ap word_of f.same
        ∙ ap (join (slots (row_of k))) (numbers_split k w f.row (find_fits w f.row))
        ∙ join_of_clean k w small f.row f.clean

    pub written_read : little_bytes 8 (word_of i) ≡ bs
    written_read = ap (little_bytes 8) same_word ∙ ap (λ (n : ℕ). little_bytes n w) (sym f.eight) ∙ bytes_of_little bs bytes

-- ---- what the writer does with an instruction that gets no refusal, and a buffer of eight bytes

module _ (i : Instruction) (legal : judge_instruction i ≡ passes) (buffer : List ℕ) (l : length buffer ≡ 8) where
  pub written : write i buffer ≡ passes
  unfolding write ◌then◌
  written = rw (eq-eqb (length buffer) 8 l, legal, never_15 i legal)

  pub stored_word : stored i buffer ≡ little_bytes 8 (word_of i)
  unfolding stored
  stored_word = rw written

-- ---- the numbers that refusals of writing have; 15 is none of them

pub write_numbers : (i : Instruction) (buffer : List ℕ) → Refusals OfWriting (write i buffer)
unfolding write ◌then◌
write_numbers i buffer =
    on OfWriting (eqb (length buffer) 8) (refusal 8 0) (inr (lit≤ tt, lit≤ tt)) (go (judge_instruction i) refl (instruction_numbers i))
  where
    go : (o : Outcome Refusal (Unit {0})) → judge_instruction i ≡ o → Refusals OfWriting o
        → Refusals OfWriting (o then require (is_record (read_number (word_of i)) i) (refusal 15 0))
    go (gives tt) q h = λ g e. never (sym (sym (ap (λ (b : Bool). require b (refusal 15 0)) (never_15 i q)) ∙ e))
    go (refuses g) q h = h

pub no_15 : (i : Instruction) (buffer : List ℕ) (f : Refusal) → write i buffer ≡ refuses f → f.number ≢ 15
no_15 i buffer f e q = ⊎_elim (λ n. omega (arith, n, q)) (λ n. omega (arith, n.1, q)) (write_numbers i buffer f e)
