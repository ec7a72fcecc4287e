-- What the tests of a word's line find is what reading the word gives. Assumes nothing.
use Rattle.std.specs.Prelude.{Ok, Result, None, Some, option_map}
use mathlib.Core.Path.{◌≡◌, refl, sym, ap, ap₂, ◌∙◌, subst}
use mathlib.Core.Bool.{Bool, true, false, ◌&&◌, ◌||◌, not}
use Prim.Native.Nat.{ℕ, ◌+◌, ◌*◌, ◌/◌, ◌%◌, ◌^◌, ◌<◌, ◌≤◌}
use native.Mathlib.Nat.{mod-lt, mod-one, mod-eq_of_lt, div-eq_of_lt, zero-mod}
use native.Mathlib.Omega.{arith}
use lib.Bits.{bit_and, bit_or, and_shr, and_mod, and_mask}
use lib.Dec.{T, eqb, ltb, leb, eqb→eq}
use lib.Pow.{pow_pos}
use borrow.Author.Tests.{lt-ltb, le-leb, lt-leb, eq-eqb, ne_eqb, ltb-true, ltb-false}
use Rattle.bits.proofs.OptionLaws.{Some-injective, None-ne-Some, Some-ne-None}
use Rattle.bits.specs.Fields.{bits, choose, assigned}
use Rattle.bits.specs.Sets.{has, minus, lowest}
use Rattle.bits.specs.Outcomes.{Outcome, gives, refuses, require, ◌then◌}
use Rattle.bits.proofs.Every.{every, at, and_l, and_r, clash}
use Rattle.rows.specs.Kinds.{Kind, flow, register, half_mask, legal_value, width}
use Rattle.rows.specs.Sources.{source_legal}
use Rattle.rows.specs.Rows.{Row, rows, row_of, no_row, row_count}
use Rattle.rows.specs.Layout.{places, slots, modifier_at, find, kind_at, modifier_place, modifier_places, mask_place, flow_place, where_has}
use Rattle.rows.specs.Served.Table.{set_of, fixed_bit, fixed, limits, widths, pairs, shape}
use Rattle.rows.proofs.TableLaws.{in_table}
use Rattle.rows.proofs.FindLaws.{find_fits}
use Rattle.record.specs.Answers.{refusal}
use Rattle.record.specs.Lists.{source_list, modifier_list}
use Rattle.record.specs.Instructions.{number_in, instruction_of}
use Rattle.record.specs.Legality.{judge_modifiers, judge_sources, judge}
use Rattle.record.specs.declared.instruction.Instruction.{Instruction}
use Rattle.record.specs.declared.answer.Refusal.{Refusal}
use Rattle.opcoderows.specs.Opcodes.{row_for}
use Rattle.lookup.specs.Served.Lines.{line_of}
use Rattle.lookup.specs.declared.Line.{Line}
use Rattle.opcoderows.proofs.OpcodeLaws.{found_among}
use Rattle.reading.specs.Reader.{lowest_stray, read_row, read_number}
use Rattle.judge.specs.Served.Judge.{refused, fit_of, Known, Fitted, Judges, judged_sources}
use Rattle.judge.specs.Served.Windows.{modifiers_ok, refused_modifier}
use Rattle.judge.specs.declared.Fit.{Fit}
use Rattle.reading.proofs.StrayLaws.{stray_le}
use Rattle.reading.proofs.FixedLaws.{stray_among, agrees, unstray}
use Rattle.reading.proofs.WindowLaws.{window_26, lower_26, window_36, lower_36, pair_8, pairs_none, modifiers_so, flow_so, mask_so, window}
use Rattle.reading.proofs.SourceBytes.{sources_so, low_legal}

abbrev Told : Type 0
Told = Outcome Refusal Instruction

-- ---- the order of the refusals, by tests

in_order : (t0 t4 t5 t7 t10 t11 : Bool) → Outcome Refusal (Unit {0})
in_order t0 t4 t5 t7 t10 t11 =
    require t0 (refusal 6 8)
    then require t4 (refusal 6 26)
    then require t5 (refusal 6 28)
    then require t7 (refusal 6 32)
    then require t10 (refusal 6 36)
    then require t11 (refusal 6 37)

abbrev pick : (t0 t4 t5 t7 t10 t11 : Bool) → (Result Fit Refusal)
pick t0 t4 t5 t7 t10 t11 =
    choose (not t0) (refused 6 8)
    (choose (not t4) (refused 6 26)
    (choose (not (t4 && t5)) (refused 6 28)
    (choose (t0 && t7) (choose (not t10) (refused 6 36) (refused 6 37)) (refused 6 32))))

abbrev all_ok : (t0 t4 t5 t7 t10 t11 : Bool) → Bool
all_ok t0 t4 t5 t7 t10 t11 = choose (not (t4 && t5)) false (choose (not (t10 && t11)) false (t0 && t7))

picked : (w : ℕ) (t0 t4 t5 t7 t10 t11 : Bool) (rest : Told) → read_number w ≡ (in_order t0 t4 t5 t7 t10 t11 then rest)
    → all_ok t0 t4 t5 t7 t10 t11 ≡ false → Judges w (pick t0 t4 t5 t7 t10 t11)
unfolding in_order ◌then◌
picked w false t4 t5 t7 t10 t11 rest e h = e
picked w true false t5 t7 t10 t11 rest e h = e
picked w true true false t7 t10 t11 rest e h = e
picked w true true true false t10 t11 rest e h = e
picked w true true true true false t11 rest e h = e
picked w true true true true true false rest e h = e
picked w true true true true true true rest e h = clash h

passed : (t0 t4 t5 t7 t10 t11 : Bool) (rest : Told) → all_ok t0 t4 t5 t7 t10 t11 ≡ true → (in_order t0 t4 t5 t7 t10 t11 then rest) ≡ rest
unfolding in_order ◌then◌
passed t0 false t5 t7 t10 t11 rest h = clash (sym h)
passed t0 true false t7 t10 t11 rest h = clash (sym h)
passed t0 true true t7 false t11 rest h = clash (sym h)
passed t0 true true t7 true false rest h = clash (sym h)
passed false true true t7 true true rest h = clash (sym h)
passed true true true false true true rest h = clash (sym h)
passed true true true true true true rest h = refl

source_order : (q0 q1 q2 q3 : Bool) → Outcome Refusal (Unit {0})
source_order q0 q1 q2 q3 = require q0 (refusal 7 0) then require q1 (refusal 7 1) then require q2 (refusal 7 2) then require q3 (refusal 7 3)

sourced : (w k : ℕ) (f : Fit) → Known k w f → (q0 q1 q2 q3 : Bool) → read_number w ≡ (source_order q0 q1 q2 q3 then gives (instruction_of k w))
    → Judges w (choose q0 (choose q1 (choose q2 (choose q3 (Ok f) (refused 7 3)) (refused 7 2)) (refused 7 1)) (refused 7 0))
unfolding source_order ◌then◌
sourced w k f n false q1 q2 q3 e = e
sourced w k f n true false q2 q3 e = e
sourced w k f n true true false q3 e = e
sourced w k f n true true true false e = e
sourced w k f n true true true true e = (k, (n, e))

-- ---- bits 40 to 47 of a word that agrees with its row: the destination, or 0

bare_test : ℕ → Row → Bool
bare_test k r = r.destination || (eqb (bits (set_of (fixed_bit r) 64) 40 8) 255 && eqb (bits (fixed r) 40 8) 0)

bares_right : T (every bare_test 0 rows)
unfolding bare_test rows places slots modifier_at assigned
bares_right = tt

module _ (k w : ℕ) (h : k < row_count) (e : bit_and w (set_of (fixed_bit (row_of k)) 64) ≡ fixed (row_of k)) where
  abbrev M : ℕ
  M = set_of (fixed_bit (row_of k)) 64

  bare_0 : (row_of k).destination ≡ false → bits w 40 8 ≡ 0
  unfolding bare_test
  bare_0 d =
      let x = bits w 40 8 in
      let a = eqb (bits M 40 8) 255 in
      let b = eqb (bits (fixed (row_of k)) 40 8) 0 in
      let u : T (a && b) = subst (λ (z : Bool). T (z || (a && b))) d (at bare_test rows no_row bares_right k (in_table k h)) in
      let p : bits (bit_and w M) 40 8 ≡ bit_and x (bits M 40 8) = ap (λ (n : ℕ). n % 2 ^ 8) (and_shr w M 40) ∙ and_mod (w / 2 ^ 40) (M / 2 ^ 40) 8 in
      let q : bit_and x (bits M 40 8) ≡ x = ap (bit_and x) (eqb→eq _ _ (and_l a b u)) ∙ and_mask x 8 ∙ mod-eq_of_lt (mod-lt (w / 2 ^ 40) (pow_pos 8)) in
      sym (p ∙ q) ∙ ap (λ (n : ℕ). bits n 40 8) e ∙ eqb→eq _ _ (and_r a b u)

  part : (t : Bool) → (row_of k).destination ≡ t → (d m : ℕ) → m + d ≤ 8 → (x : Kind) → width x ≡ m → bits w (40 + d) m ≡ bits w (40 + d) (width (where_has t x))
  part true q d m l x e = ap (bits w (40 + d)) (sym e)
  part false q d m l x e =
      sym (window w 40 8 d m l) ∙ ap (λ (n : ℕ). n / 2 ^ d % 2 ^ m) (bare_0 q) ∙ zero d m ∙ sym (mod-one (w / 2 ^ (40 + d)))
    where
      zero : (d m : ℕ) → 0 / 2 ^ d % 2 ^ m ≡ 0
      zero d m = ap (λ (n : ℕ). n % 2 ^ m) (div-eq_of_lt (pow_pos d)) ∙ zero-mod (2 ^ m)

  pub known : Known k w (fit_of k w)
  known =
      record {
        in_table = h;
        fit = refl;
        register = part (row_of k).destination refl 0 6 (omega arith) register refl;
        mask = part (row_of k).destination refl 6 2 (omega arith) half_mask refl;
      }

-- ---- a word whose row is found and that has no stray bit

then_assoc : (a b : Outcome Refusal (Unit {0})) (c : Told) → ((a then b) then c) ≡ (a then (b then c))
unfolding ◌then◌
then_assoc (gives u) b c = refl
then_assoc (refuses r) b c = refl

module _ (w k : ℕ) (ek : find rows 0 w ≡ k) (h : k < row_count) (clean : lowest_stray k w ≡ 64) where
  abbrev r : Row
  r = row_of k

  abbrev i : Instruction
  i = instruction_of k w

  abbrev t : ℕ → Bool
  t j = legal_value (kind_at (row_of k) (modifier_place j)) (number_in k w (modifier_place j))

  abbrev flow_ok : Bool
  flow_ok = legal_value flow (number_in k w flow_place)

  abbrev mask_ok : Bool
  mask_ok = legal_value (kind_at (row_of k) mask_place) (number_in k w mask_place)

  abbrev modifiers_part : Outcome Refusal (Unit {0})
  modifiers_part = judge_modifiers (row_of k) modifier_places (modifier_list (instruction_of k w).modifiers)

  abbrev sources_part : Outcome Refusal (Unit {0})
  sources_part = judge_sources (row_of k) (bits w 57 2) 0 (source_list (instruction_of k w).sources)

  whole : read_number w ≡ (require flow_ok (refusal 4 0) then require mask_ok (refusal 5 0) then (modifiers_part then (sources_part then gives (instruction_of k w))))
  unfolding read_row judge ◌then◌
  whole =
      ap (λ (n : ℕ). read_row n w) ek
      ∙ first _ (ltb k row_count) (lt-ltb k row_count h) (leb 64 (lowest_stray k w)) (le-leb 64 (lowest_stray k w) (omega (arith, clean)))
    where
      first : (r₃ : Refusal) (a : Bool) → a ≡ true → (b : Bool) → b ≡ true
          → (require a (refusal 2 0) then (require b r₃ then ((require flow_ok (refusal 4 0) then (require mask_ok (refusal 5 0) then (modifiers_part then sources_part))) then gives i)))
          ≡ (require flow_ok (refusal 4 0) then require mask_ok (refusal 5 0) then (modifiers_part then (sources_part then gives i)))
      first r₃ true p true q =
          then_assoc (require flow_ok (refusal 4 0)) _ (gives i)
          ∙ ap (λ (z : Told). require flow_ok (refusal 4 0) then z) (then_assoc (require mask_ok (refusal 5 0)) _ (gives i) ∙ ap (λ (z : Told). require mask_ok (refusal 5 0) then z) (then_assoc modifiers_part sources_part (gives i)))
      first r₃ true p false q = clash (sym q)
      first r₃ false p b q = clash (sym p)

  pub stop_flow : {x : Bool} → x ≡ has 43007 (bits w 59 4) → x ≡ false → Judges w (refused 4 0)
  unfolding ◌then◌
  stop_flow e q = whole ∙ rw (sym (flow_so k w h) ∙ sym e ∙ q)

  module _ {x : Bool} (ex : x ≡ has 43007 (bits w 59 4)) (qx : x ≡ true) where
    flow_right : flow_ok ≡ true
    flow_right = sym (flow_so k w h) ∙ sym ex ∙ qx

    pub stop_mask : eqb (bits (bit_or w (shape (row_of k) + k * 2 ^ 48)) 46 2) 0 ≡ true → Judges w (refused 5 0)
    unfolding ◌then◌
    stop_mask q = whole ∙ rw (flow_right, not_out mask_ok (sym (mask_so k w h) ∙ q))
      where
        not_out : (b : Bool) → not b ≡ true → b ≡ false
        not_out true z = clash (sym z)
        not_out false z = refl

    module _ (qm : eqb (bits (bit_or w (shape (row_of k) + k * 2 ^ 48)) 46 2) 0 ≡ false) where
      mask_right : mask_ok ≡ true
      mask_right = not_out mask_ok (sym (mask_so k w h) ∙ qm)
        where
          not_out : (b : Bool) → not b ≡ false → b ≡ true
          not_out true z = refl
          not_out false z = clash z

      so_far : read_number w ≡ (in_order (t 0) (t 4) (t 5) (t 7) (t 10) (t 11) then (sources_part then gives (instruction_of k w)))
      unfolding ◌then◌ in_order
      so_far = whole ∙ rw (flow_right, mask_right, modifiers_so k w h)

      ok_so : modifiers_ok (limits (row_of k)) (pairs (row_of k)) w ≡ all_ok (t 0) (t 4) (t 5) (t 7) (t 10) (t 11)
      ok_so =
          λ j. choose (window_26 k w h j) false (choose (window_36 k w h j) false (pairs_none k w h j))

      pick_so : refused_modifier (limits (row_of k)) (widths (row_of k)) (pairs (row_of k)) w ≡ pick (t 0) (t 4) (t 5) (t 7) (t 10) (t 11)
      pick_so =
          λ j.
          choose (pair_8 k w h j) (refused 6 8)
          (choose (lower_26 k w h j) (refused 6 26)
          (choose (window_26 k w h j) (refused 6 28)
          (choose (pairs_none k w h j) (choose (lower_36 k w h j) (refused 6 36) (refused 6 37)) (refused 6 32))))

      pub stop_modifier : modifiers_ok (limits (row_of k)) (pairs (row_of k)) w ≡ false
          → Judges w (refused_modifier (limits (row_of k)) (widths (row_of k)) (pairs (row_of k)) w)
      stop_modifier q =
          subst (Judges w) (sym pick_so) (picked w (t 0) (t 4) (t 5) (t 7) (t 10) (t 11) (sources_part then gives (instruction_of k w)) so_far (sym ok_so ∙ q))

      module _ (qo : modifiers_ok (limits (row_of k)) (pairs (row_of k)) w ≡ true) (n : Known k w (fit_of k w)) where
        abbrev s : ℕ
        s = bit_and w (shape (row_of k) + k * 2 ^ 48) % 4294967296

        abbrev q : ℕ → Bool
        q j = source_legal (bits w 57 2) (bits (bit_and w (shape (row_of k) + k * 2 ^ 48) % 4294967296) (8 * j) 8)

        last : read_number w ≡ (source_order (q 0) (q 1) (q 2) (q 3) then gives (instruction_of k w))
        unfolding source_order
        last =
            so_far
            ∙ passed (t 0) (t 4) (t 5) (t 7) (t 10) (t 11) (sources_part then gives (instruction_of k w)) (sym ok_so ∙ qo)
            ∙ ap (λ (z : Outcome Refusal (Unit {0})). z then gives (instruction_of k w)) (sources_so k w h)

        pub by_sources : Judges w (judged_sources (fit_of k w) w)
        unfolding judged_sources
        by_sources = sourced w k (fit_of k w) n (q 0) (q 1) (q 2) (q 3) last

-- ---- the line that is found

module _ (w : ℕ) where
  -- the line that a lookup gives is that of the row that the word fits
  pub line_fitted : {l : Line} → Some l ≡ option_map line_of (row_for w) → Fitted w l
  line_fitted {l} e = go (ltb (find rows 0 w) row_count) refl (e ∙ ap (option_map line_of) (found_among w))
    where
      go : (b : Bool) → ltb (find rows 0 w) row_count ≡ b → Some l ≡ option_map line_of (choose b (Some (find rows 0 w)) None) → Fitted w l
      go true p q = record { in_table = ltb-true (find rows 0 w) row_count p; line = Some-injective l (line_of (find rows 0 w)) q }
      go false p q = absurd (Some-ne-None l q)

  -- and where it gives none, no row fits: 2
  pub none_fits : None ≡ option_map line_of (row_for w) → Judges w (refused 2 0)
  unfolding read_row ◌then◌
  none_fits e = go (ltb (find rows 0 w) row_count) refl (e ∙ ap (option_map line_of) (found_among w))
    where
      go : (b : Bool) → ltb (find rows 0 w) row_count ≡ b → None ≡ option_map line_of (choose b (Some (find rows 0 w)) None) → read_number w ≡ refuses (refusal 2 0)
      go true p q = absurd (None-ne-Some (line_of (find rows 0 w)) q)
      go false p q = rw p

module _ (w : ℕ) (hw : w < 2 ^ 64) (l : Line) (fl : Fitted w l) where
  abbrev el : l ≡ line_of (find rows 0 w)
  el = fl.line

  abbrev k' : ℕ
  k' = find rows 0 w

  bits_there : l.fixed_bits ≡ set_of (fixed_bit (row_of (find rows 0 w))) 64
  unfolding line_of
  bits_there = ap (λ (x : Line). x.fixed_bits) el

  fixed_there : l.fixed ≡ fixed (row_of (find rows 0 w))
  unfolding line_of
  fixed_there = ap (λ (x : Line). x.fixed) el

  pub shape_there : l.shape ≡ shape (row_of (find rows 0 w)) + find rows 0 w * 2 ^ 48
  unfolding line_of
  shape_there = ap (λ (x : Line). x.shape) el

  pub limits_there : l.limits ≡ limits (row_of (find rows 0 w))
  unfolding line_of
  limits_there = ap (λ (x : Line). x.limits) el

  pub pairs_there : l.pairs ≡ pairs (row_of (find rows 0 w))
  unfolding line_of
  pairs_there = ap (λ (x : Line). x.pairs) el

  pub widths_there : l.modifiers ≡ widths (row_of (find rows 0 w))
  unfolding line_of
  widths_there = ap (λ (x : Line). x.modifiers) el

  mask_same : {m : ℕ} → m ≡ bits (bit_or w l.shape) 46 2 → m ≡ bits (bit_or w (shape (row_of (find rows 0 w)) + find rows 0 w * 2 ^ 48)) 46 2
  mask_same em = em ∙ ap (λ (n : ℕ). bits (bit_or w n) 46 2) shape_there

  ok_same : modifiers_ok l.limits l.pairs w ≡ modifiers_ok (limits (row_of (find rows 0 w))) (pairs (row_of (find rows 0 w))) w
  ok_same = ap₂ (λ (a b : ℕ). modifiers_ok a b w) limits_there pairs_there

  -- what the line leaves over of the word are its stray bits
  pub left_over : lowest (minus (bit_and w l.fixed_bits) l.fixed) ≡ lowest_stray (find rows 0 w) w
  left_over =
      ap₂ (λ (a b : ℕ). lowest (minus (bit_and w a) b)) bits_there fixed_there
      ∙ stray_among (find rows 0 w) fl.in_table w hw (find_fits w fl.in_table)

  -- a word that disagrees with its line has a stray bit: 3, with the lowest
  pub stray_there : (bit_and w l.fixed_bits ≡ l.fixed → ⊥) → Judges w (refused 3 (lowest_stray (find rows 0 w) w))
  unfolding read_row ◌then◌
  stray_there n =
      rw (lt-ltb k' row_count fl.in_table, lt-leb 64 (lowest_stray k' w) stray_lt)
    where
      stray_lt : lowest_stray (find rows 0 w) w < 64
      stray_lt = go (ltb (lowest_stray (find rows 0 w) w) 64) refl
        where
          go : (b : Bool) → ltb (lowest_stray (find rows 0 w) w) 64 ≡ b → lowest_stray (find rows 0 w) w < 64
          go true q = ltb-true (lowest_stray (find rows 0 w) w) 64 q
          go false q =
              let c : lowest_stray (find rows 0 w) w ≡ 64 = omega (arith, stray_le (find rows 0 w) w, ltb-false (lowest_stray (find rows 0 w) w) 64 q) in
              absurd (n (ap (bit_and w) bits_there ∙ agrees (find rows 0 w) fl.in_table w hw (find_fits w fl.in_table) c ∙ sym fixed_there))

  -- a word that agrees with its line has no stray bit
  module _ (a : bit_and w l.fixed_bits ≡ l.fixed) where
    agreed : bit_and w (set_of (fixed_bit (row_of (find rows 0 w))) 64) ≡ fixed (row_of (find rows 0 w))
    agreed = ap (bit_and w) (sym bits_there) ∙ a ∙ fixed_there

    pub found_clean : lowest_stray (find rows 0 w) w ≡ 64
    found_clean = unstray (find rows 0 w) fl.in_table w hw agreed

    pub found_known : Known (find rows 0 w) w (fit_of (find rows 0 w) w)
    found_known = known (find rows 0 w) w fl.in_table agreed

    -- what the fields get, by what the tests of the line found
    pub fields_4 : {j : (Result Fit Refusal)} {x : Bool} {y : ℕ} → x ≡ has 43007 y → y ≡ bits w 59 4 → x ≡ false → j ≡ refused 4 0 → Judges w j
    fields_4 e q z ej = subst (Judges w) (sym ej) (stop_flow w (find rows 0 w) refl fl.in_table found_clean (e ∙ ap (has 43007) q) z)

    module _ {x : Bool} {y : ℕ} (e : x ≡ has 43007 y) (q : y ≡ bits w 59 4) (z : x ≡ true) where
      pub fields_5 : {j : (Result Fit Refusal)} {m : ℕ} → m ≡ bits (bit_or w l.shape) 46 2 → m ≡ 0 → j ≡ refused 5 0 → Judges w j
      fields_5 em zm ej =
          subst (Judges w) (sym ej) (stop_mask w (find rows 0 w) refl fl.in_table found_clean (e ∙ ap (has 43007) q) z (eq-eqb _ 0 (sym (mask_same em) ∙ zm)))

      module _ {m : ℕ} (em : m ≡ bits (bit_or w l.shape) 46 2) (zm : m ≡ 0 → ⊥) where
        mask_ne : eqb (bits (bit_or w (shape (row_of (find rows 0 w)) + find rows 0 w * 2 ^ 48)) 46 2) 0 ≡ false
        mask_ne = ne_eqb _ 0 (λ n. zm (mask_same em ∙ n))

        pub fields_6 : {j : (Result Fit Refusal)} {o : Bool} → o ≡ modifiers_ok l.limits l.pairs w → o ≡ false → j ≡ refused_modifier l.limits l.modifiers l.pairs w → Judges w j
        fields_6 eo zo ej =
            subst (Judges w) (sym (ej ∙ (λ t. refused_modifier (limits_there t) (widths_there t) (pairs_there t) w)))
            (stop_modifier w (find rows 0 w) refl fl.in_table found_clean (e ∙ ap (has 43007) q) z mask_ne (sym (eo ∙ ok_same) ∙ zo))

        module _ {o : Bool} (eo : o ≡ modifiers_ok l.limits l.pairs w) (zo : o ≡ true) (f : Fit)
            (ef : f ≡ record { shape = l.shape; sources = bit_and w l.shape % 4294967296; modifiers = l.modifiers }) where
          fit_there : f ≡ fit_of (find rows 0 w) w
          fit_there = ef ∙ (λ t. record { shape = shape_there t; sources = bit_and w (shape_there t) % 4294967296; modifiers = widths_there t })

          pub fields_7 : {j : (Result Fit Refusal)} → j ≡ judged_sources f w → Judges w j
          fields_7 ej =
              subst (Judges w) (sym (ej ∙ ap (λ (x : Fit). judged_sources x w) fit_there))
              (by_sources w (find rows 0 w) refl fl.in_table found_clean (e ∙ ap (has 43007) q) z mask_ne (sym (eo ∙ ok_same) ∙ zo) found_known)

          -- sources that are all below 224 are legal
          pub fields_low : {j : (Result Fit Refusal)} → ((i : ℕ) → i < 4 → bits f.sources (8 * i) 8 < 224) → j ≡ Ok f → Judges w j
          unfolding judged_sources
          fields_low u ej =
              let v = low_legal f.sources (bits w 57 2) u in
              fields_7 (ej ∙ rw (v 0 (omega arith), v 1 (omega arith), v 2 (omega arith), v 3 (omega arith)))
