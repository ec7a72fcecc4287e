-- Refusal 3 names the lowest bit of the word that is 1 and that its row leaves unassigned. Assumes nothing.
use mathlib.Core.Path.{◌≡◌, refl, sym, ap, ap₂, ◌∙◌}
use mathlib.Core.Bool.{Bool, true, false, ◌&&◌, not}
use mathlib.Core.List.{List}
use Prim.Native.Nat.{ℕ, ◌<◌}
use native.Mathlib.Nat.{zero-add}
use native.Mathlib.Omega.{arith}
use lib.Dec.{ltb, leb, eqb}
use lib.ListN.{length}
use borrow.Author.Tests.{lt-ltb, lt-leb, eq-eqb, eqb-true, ltb-true, ltb-false, leb-false}
use Rattle.bits.specs.Fields.{assigned}
use Rattle.bits.specs.Bytes.{little}
use Rattle.bits.specs.Sets.{Has, has, lowest_from}
use Rattle.bits.specs.Outcomes.{gives, refuses, ◌then◌}
use Rattle.bits.proofs.Every.{both, clash}
use Rattle.bits.proofs.OutcomeLaws.{Refusals, of_gives, of_then, on_failed, weaker}
use Rattle.bits.proofs.SetLaws.{has_true, true_has, lowest_at, lowest_below}
use Rattle.rows.specs.Rows.{rows, row_of, row_count}
use Rattle.rows.specs.Layout.{slots, fits, find}
use Rattle.rows.proofs.FindLaws.{find_fits, find_row}
use Rattle.record.specs.Answers.{refusal}
use Rattle.record.specs.Instructions.{instruction_of}
use Rattle.record.specs.Legality.{judge}
use Rattle.record.specs.declared.answer.Refusal.{Refusal}
use Rattle.record.proofs.NumberedLaws.{Numbered, judge_numbers}
use Rattle.reading.specs.Reader.{stray, lowest_stray, read_row, read_number, read}
use Rattle.reading.specs.Stray.{StrayAt, NamesStray}

-- where a lowest stray bit is, it is one
module _ (w : ℕ) (l : find rows 0 w < row_count) (h : lowest_stray (find rows 0 w) w < 64) where
  abbrev k : ℕ
  k = find rows 0 w

  abbrev b : ℕ
  b = lowest_stray (find rows 0 w) w

  both_so : (has w b ≡ true) × (not (assigned (slots (row_of k)) b) ≡ true)
  unfolding lowest_stray
  both_so = both (has w b) (not (assigned (slots (row_of k)) b)) (lowest_at (stray k w) 64 0 (rw (zero-add 64) h))

  there : StrayAt w (lowest_stray (find rows 0 w) w)
  unfolding lowest_stray
  there =
      record {
        row = k;
        in_table = l;
        fitting = find_fits w l;
        is = h;
        one = true_has w b both_so.0;
        unowned = not_true (assigned (slots (row_of k)) b) both_so.1;
        lowest = λ c m o. owned (assigned (slots (row_of k)) c) (has_true w c o) (lowest_below (stray k w) 64 0 c (omega arith) m);
      }
    where
      not_true : (t : Bool) → not t ≡ true → t ≡ false
      not_true true e = clash (sym e)
      not_true false e = refl

      owned : {x : Bool} (t : Bool) → x ≡ true → x && not t ≡ false → t ≡ true
      owned true p e = refl
      owned false p e = clash (sym (ap (λ (y : Bool). y && true) p) ∙ e)

abbrev ByStray : ℕ → Refusal → Type 0
ByStray w f = f.number ≡ 3 → StrayAt w f.place

other : (w n : ℕ) {p : ℕ} → (¬ (n ≡ 3)) → ByStray w (refusal n p)
other w n d e = absurd (d e)

-- a word that is refused with 3
pub word_stray : (w : ℕ) → Refusals (λ (f : Refusal). f.number ≡ 3 → StrayAt w f.place) (read_number w)
unfolding read_row
word_stray w =
    let k = find rows 0 w in
    on_failed (ByStray w) (ltb k row_count) (refusal 2 0) (λ e. other w 2 (λ d. absurd (omega (arith, d))))
    (λ l. on_failed (ByStray w) (leb 64 (lowest_stray k w)) (refusal 3 (lowest_stray k w))
    (λ e d. there w (ltb-true k row_count l) (leb-false 64 (lowest_stray k w) e))
    (λ e. of_then (ByStray w) (judge (row_of k) (instruction_of k w)) (gives (instruction_of k w))
    (weaker (λ (f : Refusal) (n : Numbered 4 7 f) (d : f.number ≡ 3). absurd (omega (arith, n.0, d))) (judge_numbers (row_of k) (instruction_of k w)))
    (of_gives (ByStray w) (instruction_of k w))))

-- and bytes
pub bytes_stray : (bs : List ℕ) → Refusals (λ (f : Refusal). f.number ≡ 3 → (length bs ≡ 8) × StrayAt (little bs) f.place) (read bs)
unfolding read
bytes_stray bs =
    on_failed (λ (f : Refusal). f.number ≡ 3 → (length bs ≡ 8) × StrayAt (little bs) f.place) (eqb (length bs) 8) (refusal 1 0)
    (λ e d. absurd (omega (arith, d)))
    (λ e. weaker (λ (f : Refusal) (s : ByStray (little bs) f) (d : f.number ≡ 3). (eqb-true (length bs) 8 e, s d)) (word_stray (little bs)))

-- the lowest that passes is the one below which none does
the_lowest : (t : ℕ → Bool) (b : ℕ) → b < 64 → t b ≡ true → ((c : ℕ) → c < b → t c ≡ false) → lowest_from t 64 0 ≡ b
the_lowest t b h e n = go (ltb x b) refl (ltb b x) refl
  where
    x : ℕ
    x = lowest_from t 64 0

    go : (p : Bool) → ltb x b ≡ p → (q : Bool) → ltb b x ≡ q → x ≡ b
    go true p q r = clash (sym (lowest_at t 64 0 (rw (zero-add 64) (omega (arith, h, ltb-true x b p)))) ∙ n x (ltb-true x b p))
    go false p true r = clash (sym e ∙ lowest_below t 64 0 b (omega arith) (ltb-true b x r))
    go false p false r = omega (arith, ltb-false x b p, ltb-false b x r)

-- a word with a stray bit is refused with 3
module _ (w b : ℕ) (s : StrayAt w b) where
  lower : (c : ℕ) (x : Bool) → has w c ≡ x → (Has w c → assigned (slots (row_of s.row)) c ≡ true) → stray s.row w c ≡ false
  lower c true e o = ap₂ (λ (x y : Bool). x && not y) e (o (true_has w c e))
  lower c false e o = ap (λ (x : Bool). x && not (assigned (slots (row_of s.row)) c)) e

  found : lowest_stray s.row w ≡ b
  unfolding lowest_stray
  found =
      the_lowest (stray s.row w) b s.is (ap₂ (λ (x y : Bool). x && not y) (has_true w b s.one) s.unowned)
      (λ c l. lower c (has w c) refl (s.lowest c l))

  stray_refused : read_number w ≡ refuses (refusal 3 b)
  unfolding read_row ◌then◌
  stray_refused =
      ap (λ (n : ℕ). read_row n w) (find_row w s.row s.in_table s.fitting)
      ∙ rw (lt-ltb s.row row_count s.in_table, found, lt-leb 64 b s.is)

pub names_stray : NamesStray read
unfolding read ◌then◌
names_stray bs b = (
  λ e. bytes_stray bs (refusal 3 b) e refl,
  λ s. rw (eq-eqb (length bs) 8 s.0) (stray_refused (little bs) b s.1),
)
