-- Of bytes that carry version 1 the verdict is the one before there were halves, but for the half that it tells. Assumes nothing.
use mathlib.Core.Path.{◌≡◌, refl, sym, ap, ap₂, ◌∙◌}
use mathlib.Core.Bool.{Bool, true, false, ◌&&◌}
use mathlib.Core.List.{List, [], ◌∷◌}
use Prim.Native.Nat.{ℕ, zero, suc, ◌+◌, ◌*◌, ◌^◌, ◌<◌}
use native.Mathlib.Nat.{add-zero, lt_of_le_of_lt}
use native.Mathlib.Omega.{arith}
use borrow.Author.Tests.{eq-eqb, eqb-false, lt-ltb}
use lib.Bits.{or_self}
use lib.Dec.{T, leb, eqb, ltb}
use lib.IntN.{ℤ, pos, negsuc}
use lib.ListN.{length}
use lib.Pow.{are_bytes}
use Rattle.bits.specs.Fields.{choose}
use Rattle.bits.specs.Sets.{has, minus, lowest}
use Rattle.bits.specs.Halves.{lower, upper, halves, both}
use Rattle.bits.specs.Outcomes.{Outcome, gives, refuses, require, ◌then◌, first, each}
use Rattle.bits.proofs.ByteLaws.{part_bytes}
use Rattle.bits.proofs.OutcomeLaws.{never}
use Rattle.bits.proofs.SetLaws.{lowest_in, has_true}
use Rattle.record.specs.declared.instruction.Instruction.{Instruction}
use Rattle.record.specs.declared.answer.Refusal.{Refusal}
use Rattle.record.specs.Registers.{reads}
use Rattle.record.proofs.RegisterLaws.{reads_lt}
use Rattle.reading.specs.Reader.{read}
use Rattle.container.specs.declared.header.Header.{Header}
use Rattle.container.specs.Formats as formats
use Rattle.container.specs.Container as now
use Rattle.container.specs.Opening.{Rejection, unplaced, header_of, open_outcome, Opens}
use Rattle.safety.specs.Program as program
use Rattle.safety.specs.Verdict as verdict
use Rattle.safety.proofs.ProgramLaws.{minus_le, number_lt}
use Rattle.version1.specs.Container as old
use Rattle.version1.specs.Opening as old_opening
use Rattle.version1.specs.Program as old_program
use Rattle.version1.specs.Verdict as old_verdict
use Rattle.version1.specs.Same.{halved, AsBefore}

-- the same order of refusals

halved_then : (a b : old_verdict.Judgement) → halved (a then b) ≡ (halved a then halved b)
unfolding ◌then◌
halved_then (gives tt) b = refl
halved_then (refuses f) b = refl

halved_first : (f : ℕ → old_verdict.Judgement) (g : ℕ → verdict.Judgement) → ((i : ℕ) → g i ≡ halved (f i)) → (n : ℕ) → first g n ≡ halved (first f n)
unfolding first
halved_first f g h zero = refl
halved_first f g h (suc n) = ap₂ (λ (a b : verdict.Judgement). a then b) (halved_first f g h n) (h n) ∙ sym (halved_then (first f n) (f n))

halved_each : (f : ℤ → old_verdict.Judgement) (g : ℤ → verdict.Judgement) → ((z : ℤ) → g z ≡ halved (f z)) → (zs : List ℤ) → each g zs ≡ halved (each f zs)
unfolding each
halved_each f g h [] = refl
halved_each f g h (z ∷ zs) = ap₂ (λ (a b : verdict.Judgement). a then b) (h z) (halved_each f g h zs) ∙ sym (halved_then (f z) (each f zs))

-- one program: each set stands for both halves
abbrev pub doubled : old_program.Program → program.Program
doubled p = record {
  version = 1;
  count = p.count;
  instruction = p.instruction;
  annotation = λ i. both (p.annotation i);
  entry = both p.entry;
}

-- registers that are missing
missing_same : (n i a b : ℕ) → a < 2 ^ 64 → verdict.none_missing n i (both a) (both b) ≡ halved (old_verdict.none_missing n i a b)
unfolding verdict.none_missing old_verdict.none_missing
missing_same n i a b h = rw (or_self (minus a b)) (go (eqb (minus a b) 0) refl)
  where
    m : ℕ
    m = minus a b

    go : (t : Bool) → eqb m 0 ≡ t
        → require t (verdict.finding n 0 i (lowest m) (verdict.reported (choose (has m (lowest m)) lower upper)))
        ≡ halved (require t (old_verdict.finding n 0 i (lowest m)))
    go true e = refl
    go false e =
        let l = lowest_in m (lt_of_le_of_lt (minus_le a b) h) (omega (arith, eqb-false m 0 e)) in
        rw (has_true m (lowest m) l.1, lt-ltb (lowest m) 64 l.0)

module _ (p : old_program.Program) (small : (i : ℕ) → p.annotation i < 2 ^ 64) where
  abbrev q : program.Program
  q = doubled p

  after_same : (i : ℕ) → program.after 1 (p.instruction i) (both (p.annotation i)) ≡ both (old_program.after (p.instruction i) (p.annotation i))
  unfolding program.after program.fills old_program.after
  after_same i = refl

  successor_same : (i held : ℕ) (z : ℤ)
      → verdict.judge_successor p.count q.annotation i (both held) z ≡ halved (old_verdict.judge_successor p.count p.annotation i held z)
  unfolding verdict.judge_successor old_verdict.judge_successor
  successor_same i held (pos j) =
      ap₂ (λ (a b : verdict.Judgement). a then b) (outside (ltb j p.count)) (missing_same 22 i (p.annotation j) held (small j))
      ∙ sym (halved_then (require (ltb j p.count) (old_verdict.finding 21 0 i 64)) (old_verdict.none_missing 22 i (p.annotation j) held))
    where
      outside : (t : Bool) → require t (verdict.plain 21 0 i) ≡ halved (require t (old_verdict.finding 21 0 i 64))
      outside true = refl
      outside false = refl
  successor_same i held (negsuc k) = refl

  index_same : (i : ℕ) → verdict.judge_index q i ≡ halved (old_verdict.judge_index p i)
  unfolding verdict.judge_flow old_verdict.judge_flow
  index_same i =
      let x = p.instruction i in
      let held = old_program.after x (p.annotation i) in
      let old = old_verdict.judge_successor p.count p.annotation i held in
      ap₂ (λ (a b : verdict.Judgement). a then b) (missing_same 20 i (reads x) (p.annotation i) (reads_lt x))
      (rw (after_same i) (halved_each old (verdict.judge_successor p.count q.annotation i (both held)) (successor_same i held) (program.successors x i)))
      ∙ sym (halved_then (old_verdict.none_missing 20 i (reads x) (p.annotation i)) (each old (program.successors x i)))

  pub program_same : verdict.judge_program q ≡ halved (old_verdict.judge_program p)
  unfolding verdict.judge_program old_verdict.judge_program
  program_same =
      ap₂ (λ (a b : verdict.Judgement). a then b) (missing_same 23 0 (p.annotation 0) p.entry (small 0))
      (halved_first (old_verdict.judge_index p) (verdict.judge_index q) index_same p.count)
      ∙ sym (halved_then (old_verdict.none_missing 23 0 (p.annotation 0) p.entry) (first (old_verdict.judge_index p) p.count))

-- bytes that carry version 1
module _ (s : List ℕ) (v1 : now.version_of s ≡ 1) where
  abbrev n : ℕ
  n = now.count_of s

  pub words_same : now.words_of s ≡ old.words_of s
  unfolding now.words_of old.words_of formats.format_of
  words_same = ap (λ (v : ℕ). now.part s (formats.header_length v) (8 * n)) v1

  annotations_same : now.annotations_of s ≡ old.annotations_of s
  unfolding now.annotations_of old.annotations_of formats.format_of
  annotations_same = ap (λ (v : ℕ). now.part s (now.annotations_start v n) (formats.annotation_length v * n)) v1

  entry_same : now.entry_of s ≡ both (old.entry_of s)
  unfolding now.entry_of old.entry_of formats.format_of
  entry_same = ap (λ (v : ℕ). now.halves_at v s 8) v1

  note_same : (notes : List ℕ) (i : ℕ) → program.annotation_at 1 notes i ≡ both (old_program.annotation_at notes i)
  unfolding program.annotation_at old_program.annotation_at formats.format_of
  note_same notes i = ap (λ (k : ℕ). halves (now.number notes (8 * i) 8) (now.number notes k 8)) (add-zero (8 * i))

  -- so its program is the same, with each set for both halves
  pub same_program : program.program_of s ≡ doubled (old_program.program_of s)
  same_program = λ l. record {
    version = v1 l;
    count = n;
    instruction = program.instruction_at (words_same l);
    annotation = λ i. (ap₂ (λ (v : ℕ) (a : List ℕ). program.annotation_at v a i) v1 annotations_same ∙ note_same (old.annotations_of s) i) l;
    entry = entry_same l;
  }

-- the tests of opening, whatever it gives
tests : {A : Type 0} → Bool → Bool → Bool → Bool → Bool → Bool → A → Outcome Rejection A
tests a b c d e f x =
    require a (unplaced 12)
    then require b (unplaced 10)
    then require c (unplaced 11)
    then require d (unplaced 13)
    then require e (unplaced 12)
    then require f (unplaced 12)
    then gives x

tests_judged : (a b c d e f : Bool) (x : Header) (y : old_opening.Header)
    → verdict.judge_opening (tests a b c d e f x) ≡ halved (old_verdict.judge_opening (tests a b c d e f y))
unfolding tests ◌then◌
tests_judged false b c d e f x y = refl
tests_judged true false c d e f x y = refl
tests_judged true true false d e f x y = refl
tests_judged true true true false e f x y = refl
tests_judged true true true true false f x y = refl
tests_judged true true true true true false x y = refl
tests_judged true true true true true true x y = refl

-- what one gives, the other does
tests_given : {A B : Type 0} (a b c d e f : Bool) (x u : A) (y : B) → tests a b c d e f x ≡ gives u → tests a b c d e f y ≡ gives y
unfolding tests ◌then◌
tests_given false b c d e f x u y p = never p
tests_given true false c d e f x u y p = never p
tests_given true true false d e f x u y p = never p
tests_given true true true false e f x u y p = never p
tests_given true true true true false f x u y p = never p
tests_given true true true true true false x u y p = never p
tests_given true true true true true true x u y p = refl

module _ (s : List ℕ) (v1 : now.version_of s ≡ 1) where
  abbrev Counted : Bool
  Counted = leb 1 (now.count_of s) && leb (now.count_of s) 2048

  abbrev Long : Bool
  Long = eqb (length s) (16 + (8 + 8) * now.count_of s)

  opens_now : open_outcome s ≡ tests (leb 16 (length s)) (now.marked s) true (eqb (now.zero_of s) 0) Counted Long (header_of s)
  unfolding tests open_outcome formats.known formats.format_of
  opens_now =
      ap (λ (v : ℕ). require (leb 16 (length s)) (unplaced 12)
      then require (now.marked s) (unplaced 10)
      then require (formats.known v) (unplaced 11)
      then require (eqb (now.zero_of s) 0) (unplaced 13)
      then require (leb 1 (now.count_of s) && leb (now.count_of s) (formats.most_of v)) (unplaced 12)
      then require (eqb (length s) (formats.container_length v (now.count_of s))) (unplaced 12)
      then gives (header_of s)) v1

  opened_then : old_opening.open_outcome s ≡ tests (leb 16 (length s)) (now.marked s) true (eqb (now.zero_of s) 0) Counted Long (old_opening.header_of s)
  unfolding tests old_opening.open_outcome
  opened_then = rw (eq-eqb (now.version_of s) 1 v1)

  opening_same : verdict.judge_opening (open_outcome s) ≡ halved (old_verdict.judge_opening (old_opening.open_outcome s))
  opening_same =
      ap verdict.judge_opening opens_now
      ∙ tests_judged (leb 16 (length s)) (now.marked s) true (eqb (now.zero_of s) 0) Counted Long (header_of s) (old_opening.header_of s)
      ∙ sym (ap (λ (o : Outcome Rejection old_opening.Header). halved (old_verdict.judge_opening o)) opened_then)

  -- what opens now opened then, and the other way round
  pub opens_old : Opens s → old_opening.Opens s
  opens_old o =
      opened_then
      ∙ tests_given (leb 16 (length s)) (now.marked s) true (eqb (now.zero_of s) 0) Counted Long (header_of s) (header_of s) (old_opening.header_of s)
      (sym opens_now ∙ o)

  pub opens_new : old_opening.Opens s → Opens s
  opens_new o =
      opens_now
      ∙ tests_given (leb 16 (length s)) (now.marked s) true (eqb (now.zero_of s) 0) Counted Long (old_opening.header_of s) (old_opening.header_of s) (header_of s)
      (sym opened_then ∙ o)

  word_same : (words : List ℕ) (i : ℕ) → verdict.judge_word words i ≡ halved (old_verdict.judge_word words i)
  word_same words i = go (read (now.eight words i))
    where
      go : (r : Outcome Refusal Instruction) → verdict.judge_reading i r ≡ halved (old_verdict.judge_reading i r)
      go (gives x) = refl
      go (refuses f) = refl

  pub old_small : T (are_bytes s) → (i : ℕ) → (old_program.program_of s).annotation i < 2 ^ 64
  unfolding old_program.annotation_at old.annotations_of
  old_small t i = number_lt (old.annotations_of s) (8 * i) (part_bytes s (old.annotations_start (now.count_of s)) (8 * now.count_of s) t)

  pub verdict_same : T (are_bytes s) → verdict.verdict_of s ≡ halved (old_verdict.verdict_of s)
  unfolding verdict.verdict_of old_verdict.verdict_of
  verdict_same t =
      let p = old_program.program_of s in
      let words = first (old_verdict.judge_word (old.words_of s)) (now.count_of s) in
      rw (same_program s v1, words_same s v1)
      (ap₂ (λ (a b : verdict.Judgement). a then b) opening_same
      (ap₂ (λ (a b : verdict.Judgement). a then b)
      (halved_first (old_verdict.judge_word (old.words_of s)) (verdict.judge_word (old.words_of s)) (word_same (old.words_of s)) (now.count_of s))
      (program_same p (old_small t))
      ∙ sym (halved_then words (old_verdict.judge_program p)))
      ∙ sym (halved_then (old_verdict.judge_opening (old_opening.open_outcome s)) (words then old_verdict.judge_program p)))

pub as_before : AsBefore verdict.verdict_of
as_before s t v1 = verdict_same s v1 t
