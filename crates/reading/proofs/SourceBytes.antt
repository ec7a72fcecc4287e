-- The sources of a word as the bytes of one number, and which of them are legal. Assumes nothing.
use mathlib.Core.Path.{◌≡◌, refl, sym, ap, ◌∙◌, subst}
use mathlib.Core.Bool.{Bool, true, false}
use Prim.Native.Nat.{ℕ, ◌+◌, ◌-◌, ◌*◌, ◌/◌, ◌%◌, ◌^◌, ◌<◌, ◌≤◌}
use native.Mathlib.Nat.{mod-lt, mod-one, div-one, div-eq_of_lt, lt_of_lt_of_le}
use native.Mathlib.Omega.{arith}
use lib.Bits.{bit_and, and_mod, and_mask}
use lib.Dec.{T, eqb, ltb, eqb→eq}
use lib.Pow.{pow_pos, pow_mono, shr-shr, mod-mod-pow}
use borrow.Author.Tests.{ltb-true, ltb-false}
use Rattle.bits.specs.Fields.{bits, choose}
use Rattle.bits.specs.Sets.{has, Has}
use Rattle.bits.specs.Outcomes.{require, ◌then◌}
use Rattle.bits.proofs.Every.{every, at, T_true, clash}
use Rattle.bits.proofs.SetLaws.{has_and, has_true, true_has}
use Rattle.rows.specs.Kinds.{width, source}
use Rattle.rows.specs.Rows.{Row, rows, row_of, no_row, row_count}
use Rattle.rows.specs.Layout.{source_place, where_has}
use Rattle.rows.specs.Sources.{source_legal}
use Rattle.rows.specs.Served.Table.{upto, shape}
use Rattle.rows.proofs.TableLaws.{in_table}
use Rattle.rows.proofs.RowLaws.{four_sources}
use Rattle.rows.proofs.SetOfLaws.{upto_at}
use Rattle.rows.proofs.SourceLaws.{source_low}
use Rattle.record.specs.Answers.{refusal}
use Rattle.record.specs.Lists.{source_list}
use Rattle.record.specs.Instructions.{number_in, instruction_of}
use Rattle.record.specs.Legality.{source_ok, judge_sources}
use Rattle.reading.proofs.WindowLaws.{inner, then_end, nothing_in_0}

-- the row's number stands above its shape, past the table's end too
row_test : ℕ → Bool
row_test k = eqb ((shape (row_of k) + k * 2 ^ 48) / 281474976710656) k

all_rows : T (upto 78 row_test)
unfolding row_test rows
all_rows = tt

pub shape_row : (k : ℕ) → k ≤ row_count → (shape (row_of k) + k * 2 ^ 48) / 281474976710656 ≡ k
unfolding row_test
shape_row k h = eqb→eq _ _ (upto_at 78 row_test all_rows k (omega arith))

-- its lowest bits are those of the sources
low_test : ℕ → Row → Bool
low_test k r = eqb ((shape r + k * 2 ^ 48) % 2 ^ 32) (2 ^ (r.sources * 8) - 1)

all_low : T (every low_test 0 rows)
unfolding low_test rows
all_low = tt

-- byte j of the lowest n bytes
byte_of : (w n j : ℕ) → bits (w % 2 ^ (n * 8)) (8 * j) 8 ≡ bits w (8 * j) (width (where_has (ltb j n) source))
byte_of w n j = go (ltb j n) refl
  where
    go : (t : Bool) → ltb j n ≡ t → bits (w % 2 ^ (n * 8)) (8 * j) 8 ≡ bits w (8 * j) (width (where_has t source))
    go true e = let l = ltb-true j n e in inner w (n * 8) (8 * j) 8 (omega arith)
    go false e =
        let l = ltb-false j n e in
        ap (λ (x : ℕ). x % 2 ^ 8) (div-eq_of_lt (lt_of_lt_of_le (mod-lt w (pow_pos (n * 8))) (pow_mono (omega arith)))) ∙ sym (mod-one _)

-- the sources' bytes, and 0 where the row has no such source
abbrev pub sources_in : ℕ → ℕ → ℕ
sources_in k w = bit_and w (shape (row_of k) + k * 2 ^ 48) % 4294967296

-- source j is legal
abbrev pub good : ℕ → ℕ → ℕ → Bool
good k w j = source_legal (bits w 57 2) (bits (sources_in k w) (8 * j) 8)

module _ (k w : ℕ) (h : k < row_count) where
  cut : sources_in k w ≡ w % 2 ^ ((row_of k).sources * 8)
  unfolding low_test
  cut =
      let n = (row_of k).sources * 8 in
      let l = four_sources k h in
      let e : 32 - n + n ≡ 32 = omega arith in
      and_mod w (shape (row_of k) + k * 2 ^ 48) 32
      ∙ ap (bit_and (w % 2 ^ 32)) (eqb→eq _ _ (at low_test rows no_row all_low k (in_table k h)))
      ∙ and_mask (w % 2 ^ 32) n
      ∙ (rw e at (mod-mod-pow w (32 - n) n))

  pub byte_there : (j : ℕ) → j < 4 → bits (sources_in k w) (8 * j) 8 ≡ number_in k w (source_place j)
  byte_there j l = ap (λ (x : ℕ). bits x (8 * j) 8) cut ∙ byte_of w (row_of k).sources j

  pub source_so : (j : ℕ) → j < 4 → source_ok (row_of k) (bits w 57 2) j (number_in k w (source_place j)) ≡ good k w j
  source_so j l = go (ltb j (row_of k).sources) ∙ ap (source_legal (bits w 57 2)) (sym (byte_there j l))
    where
      go : (t : Bool) → choose t (source_legal (bits w 57 2) (bits w (8 * j) (width (where_has t source)))) true
          ≡ source_legal (bits w 57 2) (bits w (8 * j) (width (where_has t source)))
      go true = refl
      go false = source_low (bits w 57 2) 0 (omega arith) ∙ ap (source_legal (bits w 57 2)) (sym (mod-one _))

  pub sources_so : judge_sources (row_of k) (bits w 57 2) 0 (source_list (instruction_of k w).sources)
      ≡ (require (good k w 0) (refusal 7 0)
      then require (good k w 1) (refusal 7 1)
      then require (good k w 2) (refusal 7 2)
      then require (good k w 3) (refusal 7 3))
  unfolding judge_sources
  sources_so = rw (source_so 0 (omega arith), source_so 1 (omega arith), source_so 2 (omega arith), source_so 3 (omega arith), then_end)

-- ---- bytes below 224

-- bit 5 of each byte
marked : (j : ℕ) → j < 4 → Has 538976288 (8 * j + 5)
marked j h = true_has _ _ (T_true _ (upto_at 4 (λ (j : ℕ). has 538976288 (8 * j + 5)) tt j h))

top_bits : (y : ℕ) → 224 ≤ y % 256 → (y / 32 % 2 ≡ 1) × (y / 64 % 2 ≡ 1) × (y / 128 % 2 ≡ 1)
top_bits y h = (omega arith, omega arith, omega arith)

-- shifted down by i bits, a number has as bit a + d what it had as bit a + n
shifted_bit : (v i a d n : ℕ) → i + (a + d) ≡ a + n → v / 2 ^ a / 2 ^ n % 2 ≡ 1 → Has (v / 2 ^ i) (a + d)
unfolding Has
shifted_bit v i a d n e h = ap (λ (x : ℕ). x % 2) (shr-shr v i (a + d) ∙ ap (λ (x : ℕ). v / 2 ^ x) e ∙ sym (shr-shr v a n)) ∙ h

pub low_bytes : (v : ℕ) → bit_and (bit_and (bit_and v (v / 2)) (v / 4)) 538976288 ≡ 0 → (j : ℕ) → j < 4 → bits v (8 * j) 8 < 224
low_bytes v e j h = go (ltb (bits v (8 * j) 8) 224) refl
  where
    go : (t : Bool) → ltb (bits v (8 * j) 8) 224 ≡ t → bits v (8 * j) 8 < 224
    go true q = ltb-true _ _ q
    go false q =
        let r = 8 * j + 5 in
        let t = top_bits (v / 2 ^ (8 * j)) (ltb-false _ _ q) in
        let a : Has v r = subst (λ (x : ℕ). Has x r) (div-one v) (shifted_bit v 0 (8 * j) 5 5 (omega arith) t.0) in
        let b : Has (v / 2) r = shifted_bit v 1 (8 * j) 5 6 (omega arith) t.1 in
        let d : Has (v / 4) r = shifted_bit v 2 (8 * j) 5 7 (omega arith) t.2 in
        let all = (has_and (bit_and (bit_and v (v / 2)) (v / 4)) 538976288 r).1 ((has_and (bit_and v (v / 2)) (v / 4) r).1 ((has_and v (v / 2) r).1 (a, b), d), marked j h) in
        clash (sym (has_true _ r all) ∙ ap (λ (x : ℕ). has x r) e ∙ nothing_in_0 r)

pub low_legal : (v page : ℕ) → ((j : ℕ) → j < 4 → bits v (8 * j) 8 < 224) → (j : ℕ) → j < 4 → source_legal page (bits v (8 * j) 8) ≡ true
low_legal v page f j h = sym (source_low page (bits v (8 * j) 8) (f j h))
