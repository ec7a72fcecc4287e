-- The order in which the code goes: one pass over the words finds what reading all of them and then judging the program finds. Assumes
-- nothing.
use Rattle.std.specs.Prelude.{Err, Ok, Result}
use mathlib.Core.Path.{◌≡◌, refl, sym, ap, ap₂, ◌∙◌}
use mathlib.Core.Bool.{true, false}
use mathlib.Core.List.{List}
use Prim.Native.Nat.{ℕ, ◌+◌, ◌*◌, ◌<◌}
use lib.IntN.{ℤ, pos, ◌+ℤ◌}
use lib.ListN.{length}
use Rattle.bits.proofs.FirstLaws.{then_none, first_more, first_stop}
use Rattle.container.specs.Formats.{word_length, annotation_length}
use Rattle.bits.specs.Halves.{both}
use Rattle.bits.specs.Outcomes.{Outcome, gives, refuses, passes, ◌then◌, first, each}
use Rattle.bits.proofs.OutcomeLaws.{then_passed, then_refused}
use Rattle.record.specs.declared.instruction.Instruction.{Instruction}
use Rattle.record.specs.declared.answer.Refusal.{Refusal}
use Rattle.reading.specs.Reader.{read}
use Rattle.record.specs.Registers.{ends, branches}
use Rattle.container.specs.declared.header.Header.{Header}
use Rattle.container.specs.Container.{words_of, annotations_of, eight}
use Rattle.container.specs.Opening.{unplaced, open_outcome}
use Rattle.container.proofs.OpeningLaws.{sized, length_words, length_annotations}
use Rattle.safety.specs.Program.{Program, successors, instruction_in, instruction_at, annotation_at, program_in, Worded, Annotated}
use Rattle.safety.specs.declared.verdict.Finding.{Finding}
use Rattle.safety.specs.Verdict.{Judgement, verdict_outcome, none_missing, judge_opening, judge_reading, judge_word, judge_flow, judge_index, judge_program, verdict_of, all_read, plain}

-- a verdict and what follows it
pub followed : {r : (Result (Unit {0}) Finding)} {a b c : Judgement} → r ≡ (Ok tt) → verdict_outcome r ≡ a → c ≡ b → c ≡ (a then b)
unfolding ◌then◌
followed er ea ec = ec ∙ rw (sym ea ∙ ap verdict_outcome er)

pub halted : {r : (Result (Unit {0}) Finding)} {a : Judgement} {f : Finding} (b : Judgement) → r ≡ Err f → verdict_outcome r ≡ a → refuses f ≡ (a then b)
unfolding ◌then◌
halted b er ea = rw (sym ea ∙ ap verdict_outcome er)

-- the successors of instruction i, by what it is
module _ (f : ℤ → Judgement) (x : Instruction) (i : ℕ) where
  pub at_end : ends x ≡ true → passes ≡ each f (successors x i)
  unfolding successors each
  at_end e = rw e

  module _ (e : ends x ≡ false) where
    pub at_refused : {r : Finding} → refuses r ≡ f (pos (i + 1)) → refuses r ≡ each f (successors x i)
    unfolding successors each ◌then◌
    at_refused q = rw (e, ← q) refl

    module _ (p : passes ≡ f (pos (i + 1))) where
      pub at_next : branches x ≡ false → passes ≡ each f (successors x i)
      unfolding successors each ◌then◌
      at_next b = rw (e, b, ← p) refl

      pub at_branch : branches x ≡ true → {c : Judgement} → c ≡ f (pos (i + 1) +ℤ x.offset) → c ≡ each f (successors x i)
      unfolding successors each ◌then◌
      at_branch b {c} q = q ∙ rw (e, b, ← p) (sym (then_none (f (pos (i + 1) +ℤ x.offset))))

-- all words before index i read
module _ (words : List ℕ) where
  pub read_on : (i : ℕ) {x : Instruction} → first (judge_word words) i ≡ passes → gives x ≡ read (eight words i) → first (judge_word words) (i + 1) ≡ passes
  read_on i h e = first_more (judge_word words) i h (sym (ap (judge_reading i) e))

  module _ (i n : ℕ) (h : first (judge_word words) i ≡ passes) where
    -- a word that does not read, at index i
    pub unread : {f : Refusal} {r : Judgement} (b : Judgement) → i < n → refuses f ≡ read (eight words i)
        → r ≡ refuses (plain f.number f.place i) → r ≡ (first (judge_word words) n then b)
    unread b l e q = q ∙ sym (then_refused b (first_stop (judge_word words) i n l h (sym (ap (judge_reading i) e))))

    -- all n read
    pub read_all : i ≡ n → passes ≡ first (judge_word words) n
    read_all q = sym (ap (first (judge_word words)) (sym q) ∙ h)

    pub ended : (b : Judgement) → i ≡ n → b ≡ (first (judge_word words) n then b)
    ended b q = sym (then_passed b (ap (first (judge_word words)) (sym q) ∙ h))

-- the pass over n words and annotations
module _ (v : ℕ) (words annotations : List ℕ) (n : ℕ) where
  abbrev P : Program
  P = program_in v words annotations n (both 0)

  -- the words before index i read, and the instructions before it pass
  pub record Passed (i : ℕ) : Type 0 where
    pub reads : first (judge_word words) i ≡ passes
    pub judged : first (judge_index P) i ≡ passes

  pub starts : Passed 0
  unfolding first
  starts = record { reads = refl; judged = refl }

  module _ {i : ℕ} (p : Passed i) where
    module _ {x : Instruction} (e : gives x ≡ read (eight words i)) where
      same : {w : Judgement} → w ≡ judge_flow v n (annotation_at v annotations) i x → w ≡ judge_index P i
      unfolding instruction_at
      same q = q ∙ ap (λ (y : Outcome Refusal Instruction). judge_flow v n (annotation_at v annotations) i (instruction_in y)) e

      pub turns : {w : Judgement} → w ≡ judge_flow v n (annotation_at v annotations) i x → w ≡ passes → Passed (i + 1)
      turns q z = record { reads = read_on words i p.reads e; judged = first_more (judge_index P) i p.judged (sym (same q) ∙ z) }

      pub fails : {w r : Judgement} {f : Finding} → i < n → w ≡ judge_flow v n (annotation_at v annotations) i x → w ≡ refuses f
          → r ≡ (first (judge_word words) n then refuses f) → r ≡ (first (judge_word words) n then first (judge_index P) n)
      fails l q z er = er ∙ ap (λ (b : Judgement). first (judge_word words) n then b) (sym (first_stop (judge_index P) i n l p.judged (sym (same q) ∙ z)))

    pub passed_all : i ≡ n → passes ≡ (first (judge_word words) n then first (judge_index P) n)
    passed_all q = sym (ap (first (judge_index P)) (sym q) ∙ p.judged) ∙ ended words i n p.reads (first (judge_index P) n) q

-- 23 before the instructions, and after the words
module _ (words : List ℕ) (p : Program) {w : Judgement} (hw : w ≡ none_missing 23 0 (p.annotation 0) p.entry) where
  abbrev n : ℕ
  n = p.count

  pub entered : {r : Judgement} → w ≡ passes → r ≡ (first (judge_word words) n then first (judge_index p) n) → r ≡ (first (judge_word words) n then judge_program p)
  unfolding judge_program
  entered z e = e ∙ ap (λ (b : Judgement). first (judge_word words) n then b) (sym (then_passed _ (sym hw ∙ z)))

  pub barred : {f : Finding} {r : Judgement} → w ≡ refuses f → r ≡ (first (judge_word words) n then refuses f) → r ≡ (first (judge_word words) n then judge_program p)
  unfolding judge_program
  barred z e = e ∙ ap (λ (b : Judgement). first (judge_word words) n then b) (sym (then_refused _ (sym hw ∙ z)))

-- a container that does not open
pub unopened : (s : List ℕ) {n : ℕ} {r : Judgement} → open_outcome s ≡ refuses (unplaced n) → r ≡ refuses (plain n 0 0) → r ≡ verdict_of s
unfolding verdict_of
unopened s o e = e ∙ sym (then_refused _ (ap judge_opening o))

pub unopened_read : (s : List ℕ) {n : ℕ} {r : Judgement} → open_outcome s ≡ refuses (unplaced n) → r ≡ refuses (plain n 0 0) → r ≡ all_read s
unfolding all_read
unopened_read s o e = e ∙ sym (then_refused _ (ap judge_opening o))

-- one that does: its words and annotations, as they are lent, and the verdict on them
module _ (s words notes : List ℕ) (h : Header) (o : open_outcome s ≡ gives h) (words_are : words ≡ words_of s) (notes_are : notes ≡ annotations_of s) where
  abbrev Count : ℕ
  Count = h.count

  pub worded : Worded words Count
  worded =
      let z = sized s o in
      record { few = rw z.counts z.few; long = ap length words_are ∙ length_words s o ∙ ap (λ (k : ℕ). word_length * k) (sym z.counts) }

  pub annotated : Annotated h.version notes Count
  annotated =
      let z = sized s o in
      record {
        few = rw z.counts z.few;
        long = ap length notes_are ∙ length_annotations s o ∙ ap₂ (λ (v k : ℕ). annotation_length v * k) (sym z.versions) (sym z.counts);
      }

  pub opened_to : {r : Judgement} → r ≡ (first (judge_word words) Count then judge_program (program_in h.version words notes Count h.entry)) → r ≡ verdict_of s
  unfolding verdict_of
  opened_to e =
      let z = sized s o in
      e ∙ rw (words_are, notes_are, z.versions, z.counts, z.enters) (sym (then_passed _ (ap judge_opening o)))

  pub opened_read : {r : Judgement} → r ≡ first (judge_word words) Count → r ≡ all_read s
  unfolding all_read
  opened_read e = e ∙ rw (words_are, (sized s o).counts) (sym (then_passed _ (ap judge_opening o)))
