-- What the writer answers by what it finds. Assumes nothing.
use mathlib.Core.Path.{◌≡◌, sym, ap, ◌∙◌}
use mathlib.Core.Bool.{Bool, true, false}
use mathlib.Core.List.{List}
use mathlib.Core.Logic.{⊎_elim}
use Prim.Native.Nat.{ℕ, ◌<◌, ◌≤◌}
use lib.ListN.{length}
use borrow.Author.Tests.{eq-eqb, ne_eqb, lt-ltb, le-ltb}
use Rattle.bits.specs.Bytes.{little_bytes}
use Rattle.bits.specs.Outcomes.{Outcome, gives, refuses, passes, require, ◌then◌}
use Rattle.bits.proofs.OutcomeLaws.{never, then_gives, then_refuses}
use Rattle.rows.specs.Rows.{row_of, row_count}
use Rattle.record.specs.Answers.{refusal}
use Rattle.record.specs.Instructions.{word_of}
use Rattle.record.specs.Legality.{judge, roomy, judge_instruction}
use Rattle.record.specs.declared.instruction.Instruction.{Instruction}
use Rattle.record.specs.declared.answer.Refusal.{Refusal}
use Rattle.reading.specs.Reader.{read_number}
use Rattle.writing.specs.Writer.{is_record, write, stored}
use Rattle.writing.proofs.RoundTrip.{judged_so, reads_as}

-- ---- the writer's answers

-- the answer is given, and the buffer keeps what it held
abbrev Refused : Instruction → List ℕ → Refusal → Type 0
Refused i bs f = (refuses f ≡ write i bs) × (bs ≡ stored i bs)

kept : (i : Instruction) (bs : List ℕ) (f : Refusal) → write i bs ≡ refuses f → Refused i bs f
unfolding stored
kept i bs f e = (sym e, rw e)

pub wrong_buffer : (i : Instruction) (bs : List ℕ) → (length bs ≡ 8 → ⊥) → (refuses (refusal 8 0) ≡ write i bs) × (bs ≡ stored i bs)
unfolding write ◌then◌
wrong_buffer i bs n = kept i bs (refusal 8 0) (rw (ne_eqb (length bs) 8 n))

module _ (i : Instruction) (bs : List ℕ) (l : length bs ≡ 8) where
  pub off_table : row_count ≤ i.row → (refuses (refusal 2 0) ≡ write i bs) × (bs ≡ stored i bs)
  unfolding write judge_instruction ◌then◌
  off_table h = kept i bs (refusal 2 0) (rw (eq-eqb (length bs) 8 l, le-ltb i.row row_count h))

  -- the row is in the table
  module _ (h : i.row < row_count) {t : Bool} (et : t ≡ roomy (row_of i.row) i) where
    pub no_room_in : t ≡ false → (refuses (refusal 9 0) ≡ write i bs) × (bs ≡ stored i bs)
    unfolding write judge_instruction ◌then◌
    no_room_in q = kept i bs (refusal 9 0) (rw (eq-eqb (length bs) 8 l, lt-ltb i.row row_count h, ← et, q))

    -- the numbers have room, and reading the word gives o
    module _ (q : t ≡ true) {w : ℕ} (ew : w ≡ word_of i) {o : Outcome Refusal Instruction} (eo : o ≡ read_number w) where
      read_as : o ≡ (judge (row_of i.row) i then gives i)
      read_as = eo ∙ ap read_number ew ∙ reads_as i h (sym et ∙ q)

      judged : judge_instruction i ≡ judge (row_of i.row) i
      judged = judged_so i h (sym et ∙ q)

      pub declined : {f : Refusal} → o ≡ refuses f → (refuses f ≡ write i bs) × (bs ≡ stored i bs)
      unfolding write ◌then◌
      declined {f} e =
          let j = ⊎_elim (λ z. z) (λ z. never (sym z)) (then_refuses (judge (row_of i.row) i) (gives i) f (sym read_as ∙ e)) in
          kept i bs f (rw (eq-eqb (length bs) 8 l, judged, j))

      -- the word reads as a record: b says whether as this one
      module _ {a : Instruction} (ea : o ≡ gives a) {b : Bool} (eb : b ≡ is_record (read_number w) i) where
        passed : judge_instruction i ≡ passes
        passed = judged ∙ (then_gives (judge (row_of i.row) i) (gives i) a (sym read_as ∙ ea)).0

        last : write i bs ≡ require b (refusal 15 0)
        unfolding write ◌then◌
        last = rw (eq-eqb (length bs) 8 l, passed, ← ew, ← eb)

        pub unread : b ≡ false → (refuses (refusal 15 0) ≡ write i bs) × (bs ≡ stored i bs)
        unread z = kept i bs (refusal 15 0) (last ∙ rw z)

        pub done : b ≡ true → {new : List ℕ} → new ≡ little_bytes 8 w → (passes ≡ write i bs) × (new ≡ stored i bs)
        unfolding stored
        done z n = let p : write i bs ≡ passes = last ∙ rw z in (sym p, rw p (n ∙ ap (little_bytes 8) ew))
