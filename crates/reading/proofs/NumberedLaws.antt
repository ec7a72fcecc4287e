-- The numbers and places that refusals of reading have. Assumes nothing.
use mathlib.Core.Path.{◌≡◌}
use mathlib.Core.List.{List}
use Prim.Native.Nat.{ℕ, ◌<◌, ◌≤◌}
use lib.Dec.{ltb, leb, eqb, lit≤, lit<}
use lib.ListN.{length}
use borrow.Author.Tests.{eq-eqb, leb-false}
use Rattle.bits.specs.Bytes.{little}
use Rattle.bits.specs.Outcomes.{gives, ◌then◌}
use Rattle.bits.proofs.OutcomeLaws.{Refusals, of_gives, of_then, on, on_failed, weaker, wider}
use Rattle.rows.specs.Rows.{Row, rows, row_of, row_count}
use Rattle.rows.specs.Layout.{find}
use Rattle.record.specs.Answers.{refusal}
use Rattle.record.specs.Instructions.{instruction_of}
use Rattle.record.specs.Legality.{judge}
use Rattle.record.specs.declared.instruction.Instruction.{Instruction}
use Rattle.record.specs.declared.answer.Refusal.{Refusal}
use Rattle.record.proofs.NumberedLaws.{Numbered, judge_numbers, Placed, judge_places}
use Rattle.reading.specs.Reader.{lowest_stray, read_row, read_number, read}

-- what holds of each refusal, with the places that it can have, holds of what a word gets
module _ (P : Refusal → Type 0) (p2 : P (refusal 2 0)) (p3 : (b : ℕ) → b < 64 → P (refusal 3 b)) (judged : (r : Row) (i : Instruction) → Refusals P (judge r i)) where
  word_refusals : (w : ℕ) → Refusals P (read_number w)
  unfolding read_row
  word_refusals w =
      let k = find rows 0 w in
      on P (ltb k row_count) (refusal 2 0) p2
      (on_failed P (leb 64 (lowest_stray k w)) (refusal 3 (lowest_stray k w)) (λ e. p3 (lowest_stray k w) (leb-false 64 (lowest_stray k w) e))
      (λ e. of_then P (judge (row_of k) (instruction_of k w)) (gives (instruction_of k w)) (judged (row_of k) (instruction_of k w)) (of_gives P (instruction_of k w))))

  -- and what bytes get
  read_refusals : P (refusal 1 0) → (bs : List ℕ) → Refusals P (read bs)
  unfolding read
  read_refusals p1 bs = on P (eqb (length bs) 8) (refusal 1 0) p1 (word_refusals (little bs))

  eight_refusals : (bs : List ℕ) → length bs ≡ 8 → Refusals P (read bs)
  unfolding read ◌then◌
  eight_refusals bs l = rw (eq-eqb (length bs) 8 l) (word_refusals (little bs))

judged_numbers : (a : ℕ) → a ≤ 4 → (r : Row) (i : Instruction) → Refusals (Numbered a 7) (judge r i)
judged_numbers a h r i = weaker (λ (f : Refusal) (n : Numbered 4 7 f). wider h (lit≤ tt) n) (judge_numbers r i)

-- the numbers of bytes, and of eight of them
pub read_numbers : (bs : List ℕ) → Refusals (Numbered 1 7) (read bs)
read_numbers = read_refusals (Numbered 1 7) (lit≤ tt, lit≤ tt) (λ b l. (lit≤ tt, lit≤ tt)) (judged_numbers 1 (lit≤ tt)) (lit≤ tt, lit≤ tt)

pub eight_numbers : (bs : List ℕ) → length bs ≡ 8 → Refusals (Numbered 2 7) (read bs)
eight_numbers = eight_refusals (Numbered 2 7) (lit≤ tt, lit≤ tt) (λ b l. (lit≤ tt, lit≤ tt)) (judged_numbers 2 (lit≤ tt))

-- and the places
pub read_places : (bs : List ℕ) → Refusals (λ (f : Refusal). f.place < 64) (read bs)
read_places = read_refusals Placed (lit< tt) (λ b l. l) judge_places (lit< tt)
