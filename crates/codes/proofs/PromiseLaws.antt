-- The header's promises are kept. Assumes nothing.
use Rattle.std.specs.Prelude.{Option, None, Some}
use mathlib.Core.Path.{◌≡◌, refl, sym, ap, ◌∙◌}
use mathlib.Core.Bool.{Bool, true, false, not}
use mathlib.Core.List.{List, [], ◌∷◌, ◌++◌}
use mathlib.Core.Logic.{◌↔◌, inl, inr, ⊎_elim}
use Prim.Native.Nat.{ℕ, zero, suc, ◌+◌, ◌*◌, ◌/◌, ◌%◌, ◌<◌}
use native.Mathlib.Omega.{arith}
use lib.Dec.{eqb, ltb, lit≤}
use lib.IntN.{ℤ, pos, negsuc}
use lib.ListN.{length, get_or}
use Rattle.bits.proofs.OptionLaws.{Some-ne-None, None-ne-Some}
use mir.Syntax.{w32}
use mir.Val.{SFits}
use borrow.Author.Tests.{eqb-true, ltb-true, not-true, not-false}
use Rattle.bits.specs.Halves.{both}
use Rattle.bits.specs.Outcomes.{Outcome, gives, refuses, passes, require}
use Rattle.bits.specs.Signed.{unsigned}
use Rattle.bits.proofs.OutcomeLaws.{never, then_gives, required, Refusals, on, weaker}
use Rattle.bits.proofs.SignedLaws.{there}
use Rattle.rows.specs.Rows.{row_of, row_count}
use Rattle.opcoderows.specs.Opcodes.{row_with}
use Rattle.opcoderows.proofs.RunLaws.{indexes}
use Rattle.record.specs.declared.instruction.Instruction.{Instruction}
use Rattle.record.specs.declared.answer.Refusal.{Refusal}
use Rattle.record.specs.Answers.{refusal}
use Rattle.record.specs.Lists.{source_list, modifier_list}
use Rattle.reading.specs.Reader.{read}
use Rattle.writing.specs.Writer.{heads, write, stored}
use Rattle.record.specs.Defaults.{fresh, default_instruction, ended}
use Rattle.record.proofs.DefaultLaws.{fresh_made}
use Rattle.record.proofs.NumberedLaws.{Numbered, OfWriting, fresh_numbers}
use Rattle.reading.proofs.NumberedLaws.{read_numbers}
use Rattle.writing.proofs.RoundTrip.{write_numbers, stored_word}
use Rattle.codec.specs.Demand2.{LegalRecord, Offset}
use Rattle.codec.proofs.Demand2Met.{demand2}
use Rattle.codec.proofs.LegalRecords.{judged_legal}
use Rattle.codec.proofs.Defaulted.{default_legal, ended_judged}
use Rattle.packing.specs.Packing.{container_bytes, halves_bytes}
use Rattle.trial.proofs.TrialLaws.{ended_alone}
use Rattle.safety.specs.declared.verdict.Finding.{Finding}
use Rattle.safety.specs.Verdict.{Judgement, verdict_of}
use Rattle.safety.specs.Demand3.{Demand3At}
use Rattle.safety.proofs.Demand3.{demand3_at}
use Rattle.safety.proofs.ProgramLaws.{bytes_below}
use Rattle.safety.proofs.NumberedLaws.{FromTheRules, verdict_numbers}
use Rattle.infer.specs.Inference.{infer_outcome}
use Rattle.differences.specs.declared.line.Line.{Line}
use Rattle.differences.specs.declared.answer.Unread.{Unread}
use Rattle.differences.specs.Answers.{line_outcome, list_outcome}
use Rattle.differences.proofs.RefusalLaws.{Early, line_early, list_early}
use Rattle.infer.proofs.NumberedLaws.{FromTheMaker, infer_numbers}
use Rattle.codes.specs.Codes.{verdict_code, infer_code, row_code, unread_code, line_code, list_code}
use Rattle.form.specs.Form.{half, form_of, pick, instruction_of_form, padded, write_form, word_after}
use Rattle.codes.specs.Promises.{ZeroTells, ZeroMeansDone, FewerMeansNone, NoRowMeansNone, ReadThenWritten, WrittenThenRead, FreshThenWritten, end_set, FreshThenAccepted}
use Rattle.form.proofs.OffsetLaws.{few}
use Rattle.form.proofs.FormLaws.{form_bytes, form_back}
use Rattle.codes.proofs.AnswerLaws.{through, kept}

-- 0 means success

form_numbers : (f bs : List ℕ) → Refusals OfWriting (write_form f bs)
unfolding write_form
form_numbers f bs =
    on OfWriting (eqb (length bs) 8) (refusal 8 0) (inr (lit≤ tt, lit≤ tt))
    (on OfWriting (ltb (get_or f 0 0) row_count) (refusal 2 0) (inl refl)
    (on OfWriting (not (padded f)) (refusal 9 0) (inr (lit≤ tt, lit≤ tt)) (write_numbers (instruction_of_form f) bs)))

some : (f : Refusal) → OfWriting f → 0 < f.number
some f = ⊎_elim (λ n. omega (arith, n)) (λ n. omega (arith, n.0))

zero_tells : {A : Type 0} (o : Outcome Refusal A) → Refusals (λ (f : Refusal). 0 < f.number) o → ZeroTells o
zero_tells (gives a) h = (λ e. (a, refl), λ g. refl)
zero_tells (refuses f) h = (λ e. absurd (omega (arith, h f refl, e)), λ g. never g.1)

verdict_zero : (o : Judgement) → Refusals (λ (f : Finding). 0 < f.number) o → (verdict_code o ≡ 0) ↔ (o ≡ passes)
verdict_zero (gives tt) h = (λ e. refl, λ e. refl)
verdict_zero (refuses f) h = (λ e. absurd (omega (arith, h f refl, e)), λ e. never e)

no_rule_0 : {n : ℕ} → FromTheRules n → 0 < n
no_rule_0 = ⊎_elim (λ b. omega (arith, b.0)) (⊎_elim (λ b. omega (arith, b.0)) (λ b. omega (arith, b.0)))

infer_zero : (o : Outcome Finding ℕ) → Refusals (λ (f : Finding). FromTheMaker f.number) o → (infer_code o % 256 ≡ 0) ↔ ((k : ℕ) × (o ≡ gives k))
infer_zero (gives k) h = (λ e. (k, refl), λ g. omega arith)
infer_zero (refuses f) h =
    (λ e. absurd (⊎_elim (λ b. omega (arith, b, e)) (⊎_elim (λ q. omega (arith, q, e)) (⊎_elim (λ q. omega (arith, q, e)) (λ q. omega (arith, q, e)))) (h f refl)), λ g. never g.1)

-- a comparison: a refusal has a number of opening or reading and no register, which is 64
module _ (u : Unread) (h : Early u.finding) where
  not_zero : unread_code u % 256 ≡ 0 → ⊥
  not_zero e = ⊎_elim (λ n. omega (arith, n, e)) (λ n. omega (arith, n, e)) h.number

  not_small : unread_code u < 256 → ⊥
  not_small e = omega (arith, h.register, e)

line_zero : (o : Outcome Unread (Option Line)) → ((u : Unread) → o ≡ refuses u → Early u.finding) → (line_code o ≡ 0) ↔ ((l : Line) × (o ≡ gives (Some l)))
line_zero (gives (Some l)) h = (λ e. (l, refl), λ g. refl)
line_zero (gives None) h = (λ e. absurd (omega (arith, e)), λ g. absurd (None-ne-Some g.0 (cc g.1)))
line_zero (refuses u) h = (λ e. absurd (not_small u (h u refl) (omega (arith, e))), λ g. never g.1)

line_fewer : (o : Outcome Unread (Option Line)) → ((u : Unread) → o ≡ refuses u → Early u.finding) → (line_code o ≡ 255) ↔ (o ≡ gives None)
line_fewer (gives (Some l)) h = (λ e. absurd (omega (arith, e)), λ g. absurd (Some-ne-None l (cc g)))
line_fewer (gives None) h = (λ e. refl, λ g. refl)
line_fewer (refuses u) h = (λ e. absurd (not_small u (h u refl) (omega (arith, e))), λ g. never g)

list_zero : (o : Outcome Unread ℕ) → ((u : Unread) → o ≡ refuses u → Early u.finding) → (list_code o % 256 ≡ 0) ↔ ((n : ℕ) × (o ≡ gives n))
list_zero (gives n) h = (λ e. (n, refl), λ g. omega arith)
list_zero (refuses u) h = (λ e. absurd (not_zero u (h u refl) e), λ g. never g.1)

pub fewer_means_none : FewerMeansNone
fewer_means_none a b k = line_fewer (line_outcome a b k) (λ u e. line_early a b k e)

pub zero_means_done : ZeroMeansDone
zero_means_done =
    record {
      of_read = λ bs. zero_tells (read bs) (weaker (λ (f : Refusal) (n : Numbered 1 7 f). omega (arith, n.0)) (read_numbers bs));
      of_write = λ f buffer. zero_tells (write_form f buffer) (weaker some (form_numbers f buffer));
      of_fresh = λ row. zero_tells (fresh row) (weaker (λ (f : Refusal) (n : f.number ≡ 2). omega (arith, n)) (fresh_numbers row));
      of_check = λ s. verdict_zero (verdict_of s) (weaker (λ (f : Finding) (n : FromTheRules f.number). no_rule_0 n) (verdict_numbers s));
      of_infer = λ v words entry buffer. infer_zero (infer_outcome v words entry buffer) (infer_numbers v words entry buffer);
      of_diff_line = λ a b k. line_zero (line_outcome a b k) (λ u e. line_early a b k e);
      of_diff_lines = λ a b. list_zero (list_outcome a b) (λ u e. list_early a b e);
    }

-- a row's number is below 255
pub no_row_means_none : NoRowMeansNone
no_row_means_none opcode k = go (row_with opcode k) refl
  where
    go : (x : Option ℕ) → row_with opcode k ≡ x → (row_code x ≡ 255) ↔ (x ≡ None)
    go (Some i) e =
        let l : i < row_count = (indexes.has_it opcode k i e).0 in
        (λ q. absurd (omega (arith, l, q)), λ q. absurd (Some-ne-None i q))
    go None e = (λ q. refl, λ q. refl)

-- so demand 3 holds of a check that answers 0 where it accepts
pub demanded : (s : List ℕ) → ((k : ℕ) → get_or s k 0 < 256) → {r : ℕ} → r ≡ verdict_code (verdict_of s) → Demand3At s (r ≡ 0)
demanded s h {r} e =
    let d = demand3_at s (bytes_below s h) in
    let z = zero_means_done.of_check s in
    let accepts : r ≡ 0 → verdict_of s ≡ passes = λ q. z.0 (sym e ∙ q) in
    record {
      sound = λ q. d.sound (accepts q);
      complete = λ f safe reached exact. e ∙ z.1 (d.complete f safe reached exact);
      goes_on = λ q. d.goes_on (accepts q);
    }

-- the form of a legal instruction is written as the instruction is

fits_32 : (b : Bool) (z : ℤ) → Offset b z → SFits w32 z
fits_32 true (pos n) l = record { sfits = omega (arith, l) }
fits_32 true (negsuc n) l = record { sfits = omega (arith, l) }
fits_32 false z e = rw e (record { sfits = omega arith })

clear : (i : Instruction) → padded (form_of i) ≡ false
unfolding padded
clear i = ap padded (sym (form_bytes i (unsigned half i.offset) refl))

row_first : (i : Instruction) → get_or (form_of i) 0 0 ≡ i.row
unfolding form_of
row_first i = refl

module _ (i : Instruction) (legal : LegalRecord i) (buffer : List ℕ) (l : length buffer ≡ 8) where
  same : instruction_of_form (form_of i) ≡ i
  same = form_back i (fits_32 (row_of i.row).offset i.offset legal.offset_legal)

  low : get_or (form_of i) 0 0 < row_count
  low = rw (row_first i) legal.in_table

  answer_same : write_form (form_of i) buffer ≡ write i buffer
  answer_same = through (form_of i) buffer l low (clear i) ∙ ap (λ (x : Instruction). write x buffer) same

  word_same : word_after (form_of i) buffer ≡ stored i buffer
  word_same = kept (form_of i) buffer l low (clear i) ∙ ap (λ (x : Instruction). stored x buffer) same

pub read_then_written : ReadThenWritten
read_then_written bs h i e buffer l =
    let w = demand2.again bs h i e buffer l in
    let legal = ((demand2.written_when i buffer).0 w.0).0 in
    (answer_same i legal buffer l ∙ w.0, word_same i legal buffer l ∙ w.1)

pub fresh_then_written : FreshThenWritten
fresh_then_written k i e buffer l =
    let m = fresh_made k i e in
    let d = default_legal k m.0 in
    ap (λ (x : Instruction). write_form (form_of x) buffer) (sym m.1)
    ∙ answer_same (default_instruction k) d buffer l
    ∙ (demand2.back (default_instruction k) d buffer l).0

ending : (i : Instruction) → end_set (form_of i) ≡ form_of (ended i)
unfolding form_of
ending i = refl

pub fresh_then_accepted : FreshThenAccepted
fresh_then_accepted v is_known k i e buffer l =
    let m = fresh_made k i e in
    let x = ended (default_instruction k) in
    let d = judged_legal x (ended_judged k m.0) in
    let f : end_set (form_of i) ≡ form_of x = ap (λ (y : Instruction). end_set (form_of y)) (sym m.1) ∙ ending (default_instruction k) in
    let w = word_same x d buffer l ∙ stored_word x (ended_judged k m.0) buffer l in (
      ap (λ (g : List ℕ). write_form g buffer) f ∙ answer_same x d buffer l ∙ (demand2.back x d buffer l).0,
      ap (λ (g : List ℕ). verdict_code (verdict_of (container_bytes v (both 0) (word_after g buffer) (halves_bytes v (both 0))))) f
          ∙ ap (λ (b : List ℕ). verdict_code (verdict_of (container_bytes v (both 0) b (halves_bytes v (both 0))))) w
          ∙ ap verdict_code (ended_alone v is_known k m.0),
    )

-- the form of an unpadded form's instruction is that form

pick_tail : (n k x : ℕ) (f : List ℕ) → pick n (suc k) (x ∷ f) ≡ pick n k f
pick_tail zero k x f = refl
pick_tail (suc n) k x f = ap (λ (l : List ℕ). get_or f k 0 ∷ l) (pick_tail n (suc k) x f)

pick_all : (f : List ℕ) → pick (length f) 0 f ≡ f
pick_all [] = refl
pick_all (x ∷ f) = ap (λ (l : List ℕ). x ∷ l) (pick_tail (length f) 0 x f ∙ pick_all f)

module _ (f : List ℕ) (l : length f ≡ 32) (h : (k : ℕ) → get_or f k 0 < 256) (p : padded f ≡ false) where
  padding : get_or f 23 0 + get_or f 28 0 + get_or f 29 0 + get_or f 30 0 + get_or f 31 0 ≡ 0
  unfolding padded
  padding = eqb-true _ _ (not-false _ p)

  abbrev n : ℕ
  n = get_or f 24 0 + 256 * (get_or f 25 0 + 256 * (get_or f 26 0 + 256 * get_or f 27 0))

  room : n < half + half
  room = omega (arith, h 24, h 25, h 26, h 27)

  byte_24 : n % 256 ≡ get_or f 24 0
  byte_24 = omega (arith, h 24)

  byte_25 : n / 256 % 256 ≡ get_or f 25 0
  byte_25 = omega (arith, h 24, h 25)

  byte_26 : n / 65536 % 256 ≡ get_or f 26 0
  byte_26 = omega (arith, h 24, h 25, h 26)

  byte_27 : n / 16777216 % 256 ≡ get_or f 27 0
  byte_27 = omega (arith, h 24, h 25, h 26, h 27)

  form_again : form_of (instruction_of_form f) ≡ f
  form_again =
      let e23 : 0 ≡ get_or f 23 0 = omega (arith, padding) in
      let e28 : 0 ≡ get_or f 28 0 = omega (arith, padding) in
      let e29 : 0 ≡ get_or f 29 0 = omega (arith, padding) in
      let e30 : 0 ≡ get_or f 30 0 = omega (arith, padding) in
      let e31 : 0 ≡ get_or f 31 0 = omega (arith, padding) in
      sym (form_bytes (instruction_of_form f) n (sym (there half few n room)))
      ∙ (λ j. heads (instruction_of_form f) ++ source_list (instruction_of_form f).sources ++ modifier_list (instruction_of_form f).modifiers ++ (e23 j ∷ byte_24 j ∷ byte_25 j ∷ byte_26 j ∷ byte_27 j ∷ e28 j ∷ e29 j ∷ e30 j ∷ e31 j ∷ []))
      ∙ (ap (λ (m : ℕ). pick m 0 f) (sym l) ∙ pick_all f)

pub written_then_read : WrittenThenRead
unfolding write_form
written_then_read f l h buffer e =
    let a = then_gives (require (eqb (length buffer) 8) (refusal 8 0)) _ tt e in
    let b = then_gives (require (ltb (get_or f 0 0) row_count) (refusal 2 0)) _ tt a.1 in
    let c = then_gives (require (not (padded f)) (refusal 9 0)) _ tt b.1 in
    let eight_long = eqb-true _ _ (required _ (refusal 8 0) a.0) in
    let row_low = ltb-true _ _ (required _ (refusal 2 0) b.0) in
    let unpadded = not-true _ (required _ (refusal 9 0) c.0) in
    let legal = ((demand2.written_when (instruction_of_form f) buffer).0 c.1).0 in
    (instruction_of_form f, ap read (kept f buffer eight_long row_low unpadded) ∙ (demand2.back (instruction_of_form f) legal buffer eight_long).1, form_again f l h unpadded)
