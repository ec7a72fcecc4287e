-- Fresh records have constants as sources and read no register, and a container of one that ends is accepted. Assumes nothing.
use mathlib.Core.Path.{◌≡◌, refl, sym, ap, ◌∙◌, subst}
use mathlib.Core.Bool.{Bool, true, false}
use mathlib.Core.List.{List}
use Prim.Native.Nat.{ℕ, zero, suc, ◌*◌, ◌<◌, ◌≤◌}
use borrow.Author.Tests.{lt-ltb, le-ltb}
use native.Mathlib.Omega.{arith}
use lib.Dec.{ltb, eqb, lit≤}
use lib.ListN.{length, get_or}
use lib.Seq.{take_all}
use Rattle.bits.specs.Bytes.{little_bytes}
use Rattle.bits.specs.Fields.{choose}
use Rattle.bits.specs.Halves.{halves, both, either, minus_halves}
use Rattle.bits.specs.declared.halves.Halves.{Halves}
use Rattle.bits.specs.Outcomes.{gives, passes, ◌then◌, first, each}
use Rattle.bits.proofs.ByteLaws.{length_bytes}
use Rattle.bits.proofs.FirstLaws.{neither}
use Rattle.bits.proofs.HalfLaws.{half_of_both, covering}
use Rattle.bits.proofs.SetLaws.{has_none}
use Rattle.rows.specs.Kinds.{source, about}
use Rattle.rows.specs.Rows.{row_of, row_count}
use Rattle.rows.specs.Layout.{where_has}
use Rattle.record.specs.Lists.{source_list}
use Rattle.record.specs.Instructions.{word_of}
use Rattle.record.specs.Defaults.{fresh, default_instruction, ended}
use Rattle.record.specs.Registers.{reads, ends}
use Rattle.record.specs.declared.instruction.Instruction.{Instruction}
use Rattle.record.proofs.RegisterLaws.{count_le}
use Rattle.record.proofs.DefaultLaws.{default_reads, fresh_made}
use Rattle.reading.specs.Reader.{read}
use Rattle.writing.specs.Writer.{stored}
use Rattle.writing.proofs.RoundTrip.{written, stored_word, read_written}
use Rattle.codec.proofs.Defaulted.{ended_judged}
use Rattle.container.specs.declared.format.Format.{Format}
use Rattle.container.specs.Formats.{known, word_length, annotation_length, container_length}
use Rattle.container.specs.Container.{eight}
use Rattle.packing.specs.Packing.{word_count, Fitting, taken, container_bytes, pack_outcome, pack_buffer}
use Rattle.packing.proofs.PackLaws.{fitting_to, by_format, packs}
use Rattle.safety.specs.Program.{program_in, instruction_at, annotation_at, successors}
use Rattle.safety.specs.Verdict.{judge_reading, judge_word, judge_flow, judge_program, verdict_of}
use Rattle.safety.proofs.VerdictLaws.{missing_to}
use Rattle.sweeps.specs.Sweeps.{note_bytes}
use Rattle.sweeps.proofs.ByteLaws.{notes_length, note_back}
use Rattle.infer.proofs.PackedLaws.{packed_verdict}
use Rattle.trial.specs.Trial.{FreshGiven, FreshSources, FreshReadsNone, no_registers, empty_annotation, TrialAccepted, FreshAccepted}

pub fresh_given : FreshGiven
unfolding fresh ◌then◌
fresh_given k h = (default_instruction k, rw (lt-ltb k row_count h))

-- what the default of a row has as source j, by the row's count
source_default : (k j : ℕ) → (about (where_has (ltb j (row_of k).sources) source)).default ≡ choose (ltb j (row_of k).sources) 0xC0 0
source_default k j = go (ltb j (row_of k).sources)
  where
    go : (t : Bool) → (about (where_has t source)).default ≡ choose t 0xC0 0
    go true = refl
    go false = refl

default_source : (k j : ℕ) → get_or (source_list (default_instruction k).sources) j 0 ≡ choose (ltb j (row_of k).sources) 0xC0 0
default_source k zero = source_default k 0
default_source k (suc zero) = source_default k 1
default_source k (suc (suc zero)) = source_default k 2
default_source k (suc (suc (suc zero))) = source_default k 3
default_source k (suc (suc (suc (suc j)))) = rw (le-ltb (suc (suc (suc (suc j)))) (row_of k).sources (omega (arith, count_le k)))

pub fresh_sources : FreshSources
fresh_sources k i e j =
    let m = fresh_made k i e in
    ap (λ (y : Instruction). get_or (source_list y.sources) j 0) (sym m.1) ∙ default_source k j

pub fresh_reads_none : FreshReadsNone
fresh_reads_none k i e = let m = fresh_made k i e in ap reads (sym m.1) ∙ default_reads k m.0

-- an empty annotation names nothing, and nothing is missing of it
names_none : (v : ℕ) → annotation_at v (empty_annotation v) 0 ≡ no_registers
unfolding note_bytes taken
names_none v = note_back v (λ j. no_registers) 1 0 (omega arith) (record { low = omega arith; high = omega arith }) ∙ taken_none
  where
    taken_none : taken v no_registers ≡ no_registers
    taken_none = by_format (λ (f : Format). halves 0 (choose (eqb f.high 0) 0 0) ≡ no_registers) refl refl v

none_lacking : {a : Halves} (b : Halves) → a ≡ no_registers → either (minus_halves a b) ≡ 0
none_lacking {a} b e = covering a b (λ h r k. absurd (has_none r (rw (e, half_of_both h 0) at k)))

-- one word and one annotation make a container
fits : (v : ℕ) (word : List ℕ) → length word ≡ word_length → Fitting v (length word) (length (empty_annotation v))
unfolding note_bytes
fits v word l =
    let one : word_count (length word) ≡ 1 = omega (arith, l) in
    record {
      some = omega (arith, one);
      few = omega (arith, one, by_format (λ (f : Format). 1 ≤ f.most) (lit≤ tt) (lit≤ tt) v);
      whole = omega (arith, l);
      noted = notes_length v (λ j. no_registers) 1 ∙ ap (λ (n : ℕ). annotation_length v * n) (sym one);
    }

-- a container of one word that reads as an instruction which reads nothing and ends
module _ (v : ℕ) (is_known : known v ≡ true) (x : Instruction) (word : List ℕ) (l : length word ≡ word_length)
    (is : read word ≡ gives x) (none : reads x ≡ 0) (end : ends x ≡ true) where
  alone : read (eight word 0) ≡ gives x
  alone = ap read (take_all 8 word (omega (arith, l))) ∙ is

  flows : judge_flow v 1 (annotation_at v (empty_annotation v)) 0 x ≡ passes
  unfolding judge_flow successors each ◌then◌
  flows =
      let note = annotation_at v (empty_annotation v) 0 in
      rw (missing_to 20 0 (both (reads x)) note (none_lacking note (ap both none)), end)

  program_passes : judge_program (program_in v word (empty_annotation v) 1 (taken v no_registers)) ≡ passes
  unfolding judge_program first ◌then◌ instruction_at
  program_passes =
      neither (missing_to 23 0 (annotation_at v (empty_annotation v) 0) (taken v no_registers) (none_lacking (taken v no_registers) (names_none v))) (rw alone flows)

  pub accepted_alone : verdict_of (container_bytes v no_registers word (empty_annotation v)) ≡ passes
  unfolding first ◌then◌
  accepted_alone =
      packed_verdict v no_registers word (empty_annotation v) is_known (fits v word l) (omega arith) (omega arith)
      ∙ ap (λ (n : ℕ). first (judge_word word) n then judge_program (program_in v word (empty_annotation v) n (taken v no_registers))) one
      ∙ neither (ap (judge_reading 0) alone) program_passes
    where
      one : word_count (length word) ≡ 1
      one = omega (arith, l)

-- the default of a row, ended: its word is accepted
module _ (v : ℕ) (is_known : known v ≡ true) (k : ℕ) (h : k < row_count) where
  abbrev x : Instruction
  x = ended (default_instruction k)

  abbrev word : List ℕ
  word = little_bytes 8 (word_of x)

  eight_bytes : length word ≡ word_length
  eight_bytes = length_bytes 8 (word_of x)

  pub ended_alone : verdict_of (container_bytes v no_registers word (empty_annotation v)) ≡ passes
  unfolding reads
  ended_alone = accepted_alone v is_known x word eight_bytes (read_written x (ended_judged k h)) (default_reads k h) refl

  -- from a buffer that it is written into, packed into another
  module _ (buffer out : List ℕ) (l : length buffer ≡ word_length) (o : length out ≡ container_length v 1) where
    is_word : stored x buffer ≡ word
    is_word = stored_word x (ended_judged k h) buffer l

    fills : (passes ≡ pack_outcome v no_registers word (empty_annotation v) out)
        × (container_bytes v no_registers word (empty_annotation v) ≡ pack_buffer v no_registers word (empty_annotation v) out)
    fills =
        packs v no_registers word (empty_annotation v) out is_known (fitting_to v _ _ (fits v word eight_bytes))
        (o ∙ ap (container_length v) (let one : 1 ≡ word_count (length word) = omega (arith, eight_bytes) in one))

    ended_accepted : TrialAccepted v x buffer out
    ended_accepted =
        record {
          written = written x (ended_judged k h) buffer l;
          packed = rw is_word (sym fills.0);
          accepted = rw (is_word, ← fills.1) ended_alone;
        }

pub fresh_accepted : FreshAccepted
fresh_accepted v is_known k i e buffer out l o =
    let m = fresh_made k i e in
    subst (λ (y : Instruction). TrialAccepted v (ended y) buffer out) m.1 (ended_accepted v is_known k m.0 buffer out l o)
