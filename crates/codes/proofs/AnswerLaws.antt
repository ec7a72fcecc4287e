-- The answers of the exported functions. Assumes nothing.
use mathlib.Core.Path.{◌≡◌, sym, ap, ◌∙◌, subst}
use mathlib.Core.Bool.{true, false}
use mathlib.Core.List.{List}
use Prim.Native.Nat.{ℕ, ◌<◌, ◌≤◌}
use lib.ListN.{length, get_or}
use borrow.Author.Tests.{eq-eqb, ne_eqb, lt-ltb, le-ltb}
use Rattle.bits.specs.declared.halves.Halves.{Halves}
use Rattle.bits.specs.Outcomes.{Outcome, gives, refuses, passes, ◌then◌}
use Rattle.rows.specs.Rows.{row_count}
use Rattle.writing.specs.Writer.{write, stored}
use Rattle.record.specs.declared.instruction.Instruction.{Instruction}
use Rattle.record.specs.declared.answer.Refusal.{Refusal}
use Rattle.safety.specs.declared.verdict.Finding.{Finding}
use Rattle.infer.specs.Inference.{infer_outcome, infer_buffer}
use Rattle.infer.specs.Asked.{AsAsked, Inferred}
use Rattle.codes.specs.Codes.{code, outcome_code, infer_code}
use Rattle.form.specs.Form.{form_of, form_after, instruction_of_form, padded, write_form, word_after}

module _ (f : List ℕ) {o : Outcome Refusal Instruction} where
  pub made : {i : Instruction} {r : List ℕ} → gives i ≡ o → r ≡ form_of i → (0 ≡ outcome_code o) × (r ≡ form_after o f)
  made e k = (ap outcome_code e, k ∙ ap (λ (p : Outcome Refusal Instruction). form_after p f) e)

  pub declined : {g : Refusal} {n : ℕ} → refuses g ≡ o → n ≡ code g → (n ≡ outcome_code o) × (f ≡ form_after o f)
  declined e k = (k ∙ ap outcome_code e, ap (λ (p : Outcome Refusal Instruction). form_after p f) e)

module _ (f bs : List ℕ) where
  abbrev pub Answered : ℕ → List ℕ → Type 0
  Answered n last = (n ≡ outcome_code (write_form f bs)) × (last ≡ word_after f bs)

  pub wrong_buffer : (length bs ≡ 8 → ⊥) → Answered 8 bs
  unfolding write_form word_after ◌then◌
  wrong_buffer n = (rw (ne_eqb (length bs) 8 n), rw (ne_eqb (length bs) 8 n))

  module _ (l : length bs ≡ 8) where
    pub no_row : row_count ≤ get_or f 0 0 → Answered 2 bs
    unfolding write_form word_after ◌then◌
    no_row m = (rw (eq-eqb (length bs) 8 l, le-ltb (get_or f 0 0) row_count m), rw (eq-eqb (length bs) 8 l, le-ltb (get_or f 0 0) row_count m))

    module _ (m : get_or f 0 0 < row_count) where
      pub not_0 : padded f ≡ true → Answered 9 bs
      unfolding write_form word_after ◌then◌
      not_0 p = (rw (eq-eqb (length bs) 8 l, lt-ltb (get_or f 0 0) row_count m, p), rw (eq-eqb (length bs) 8 l, lt-ltb (get_or f 0 0) row_count m, p))

      pub through : padded f ≡ false → write_form f bs ≡ write (instruction_of_form f) bs
      unfolding write_form ◌then◌
      through p = rw (eq-eqb (length bs) 8 l, lt-ltb (get_or f 0 0) row_count m, p)

      pub kept : padded f ≡ false → word_after f bs ≡ stored (instruction_of_form f) bs
      unfolding word_after stored
      kept p = rw (through p)

      pub done : padded f ≡ false → passes ≡ write (instruction_of_form f) bs → {last : List ℕ} → last ≡ stored (instruction_of_form f) bs → Answered 0 last
      done p e k = (ap outcome_code (e ∙ sym (through p)), k ∙ sym (kept p))

      pub unwritten : padded f ≡ false → {g : Refusal} → refuses g ≡ write (instruction_of_form f) bs → {n : ℕ} → n ≡ code g
          → {last : List ℕ} → last ≡ stored (instruction_of_form f) bs → Answered n last
      unwritten p e q k = (q ∙ ap outcome_code (e ∙ sym (through p)), k ∙ sym (kept p))

-- the code of what the maker answers
module _ {v : ℕ} {words : List ℕ} {entry : Halves} {buffer : List ℕ} {o : Outcome Finding ℕ} {after : List ℕ} (made : Inferred v words entry buffer o after) where
  pub proposed : {q : Outcome Finding ℕ} → o ≡ q → {r : ℕ} → r ≡ infer_code q
      → (r ≡ infer_code (infer_outcome v words entry buffer)) × ((after ≡ infer_buffer v words entry buffer) × AsAsked v words entry buffer (infer_outcome v words entry buffer) after)
  proposed p e = (
    e ∙ ap infer_code (sym p ∙ made.answers),
    (made.leaves, subst (λ (x : Outcome Finding ℕ). AsAsked v words entry buffer x after) made.answers made.asked),
  )
