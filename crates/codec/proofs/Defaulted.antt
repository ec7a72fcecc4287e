-- Every row's default is legal, is written, and reads back, with flow `end` too: one test over the rows. Assumes nothing.
use mathlib.Core.Path.{◌≡◌, refl, ap, ◌∙◌}
use mathlib.Core.Bool.{Bool, true, false, ◌&&◌}
use mathlib.Core.List.{List}
use Prim.Native.Nat.{ℕ, ◌<◌}
use lib.Dec.{T}
use lib.ListN.{length}
use Rattle.bits.specs.Fields.{fit}
use Rattle.bits.specs.Outcomes.{Outcome, gives, refuses, passes, ◌then◌}
use Rattle.bits.specs.Signed.{unsigned}
use Rattle.bits.proofs.Every.{every, at, and_l, and_r}
use Rattle.rows.specs.Rows.{Row, rows, no_row, row_count}
use Rattle.rows.specs.Layout.{modifier_at}
use Rattle.rows.specs.Sources.{meaning}
use Rattle.rows.proofs.TableLaws.{in_table}
use Rattle.record.specs.Legality.{judge_modifiers, judge_sources, judge, roomy, judge_instruction}
use Rattle.reading.specs.Reader.{read}
use Rattle.writing.specs.Writer.{write, stored}
use Rattle.record.specs.Defaults.{default_instruction, ended}
use Rattle.codec.specs.Demand2.{LegalRecord}
use Rattle.record.specs.declared.instruction.Instruction.{Instruction}
use Rattle.record.specs.declared.answer.Refusal.{Refusal}
use Rattle.codec.proofs.LegalRecords.{judged_legal}
use Rattle.writing.proofs.RoundTrip.{written, stored_word, read_written}

passing : Outcome Refusal (Unit {0}) → Bool
passing (gives t) = true
passing (refuses f) = false

passing_eq : (o : Outcome Refusal (Unit {0})) → T (passing o) → o ≡ passes
unfolding passing
passing_eq (gives tt) t = refl
passing_eq (refuses f) t = absurd t

legal : Instruction → Bool
legal i = passing (judge_instruction i)

test : ℕ → Row → Bool
test k r = legal (default_instruction k) && legal (ended (default_instruction k))

all_legal : T (every test 0 rows)
unfolding test legal passing judge_instruction ◌then◌ judge judge_modifiers judge_sources roomy unsigned fit rows modifier_at meaning
all_legal = tt

module _ (k : ℕ) (h : k < row_count) where
  tested : T (legal (default_instruction k) && legal (ended (default_instruction k)))
  unfolding test
  tested = at test rows no_row all_legal k (in_table k h)

  pub default_judged : judge_instruction (default_instruction k) ≡ passes
  unfolding legal
  default_judged = passing_eq _ (and_l (legal (default_instruction k)) (legal (ended (default_instruction k))) tested)

  pub ended_judged : judge_instruction (ended (default_instruction k)) ≡ passes
  unfolding legal
  ended_judged = passing_eq _ (and_r (legal (default_instruction k)) (legal (ended (default_instruction k))) tested)

  pub default_legal : LegalRecord (default_instruction k)
  default_legal = judged_legal (default_instruction k) default_judged

  pub default_written : (buffer : List ℕ) → length buffer ≡ 8
      → (write (default_instruction k) buffer ≡ passes) × (read (stored (default_instruction k) buffer) ≡ gives (default_instruction k))
  default_written buffer l = (
    written (default_instruction k) default_judged buffer l,
    ap read (stored_word (default_instruction k) default_judged buffer l) ∙ read_written (default_instruction k) default_judged,
  )
