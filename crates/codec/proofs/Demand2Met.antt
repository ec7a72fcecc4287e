-- Demand 2 is met by the reader and the writer of specs/, call by call and as a whole, and not by lazy ones. Assumes nothing.
use mathlib.Core.Path.{◌≡◌, refl, sym, ap, ◌∙◌}
use mathlib.Core.List.{List, [], ◌∷◌}
use mathlib.Core.Logic.{◌↔◌}
use Prim.Native.Nat.{ℕ, zero, suc, ◌<◌}
use native.Mathlib.Omega.{arith}
use lib.Dec.{T, ltb, eqb, lt→ltb, ltb→lt}
use lib.ListN.{length, get_or, replicate}
use lib.Pow.{are_bytes}
use borrow.Author.Tests.{eqb-true}
use Rattle.bits.specs.Bytes.{little_bytes}
use Rattle.bits.specs.Outcomes.{Outcome, gives, refuses, passes, require, kept_or}
use Rattle.bits.proofs.Every.{and_both, and_l, and_r}
use Rattle.bits.proofs.OutcomeLaws.{then_gives, required, never}
use Rattle.record.specs.Instructions.{word_of}
use Rattle.reading.specs.Reader.{read}
use Rattle.record.specs.Legality.{judge_instruction}
use Rattle.writing.specs.Writer.{write, stored}
use Rattle.record.specs.Answers.{refusal}
use Rattle.codec.specs.Demand2.{Readable, LegalRecord, Given, Demand2, ReadAsAsked, WrittenAsAsked}
use Rattle.codec.specs.Examples.{examples}
use Rattle.record.specs.declared.instruction.Instruction.{Instruction}
use Rattle.record.specs.declared.answer.Refusal.{Refusal}
use Rattle.codec.proofs.ReadableWords.{no_two, readable_read, read_readable}
use Rattle.codec.proofs.LegalRecords.{legal_judged, judged_legal}
use Rattle.writing.proofs.RoundTrip.{read_legal, written_read, read_written, written, stored_word}
use Rattle.codec.proofs.ExamplesHold.{examples_hold}

are_bytes_lem : (bs : List ℕ) → ((b : ℕ) → get_or bs b 0 < 256) → T (are_bytes bs)
are_bytes_lem [] h = tt
are_bytes_lem (x ∷ bs) h = and_both (ltb x 256) (are_bytes bs) (lt→ltb x 256 (h 0)) (are_bytes_lem bs (λ b. h (suc b)))

read_when : (bs : List ℕ) → Given (read bs) ↔ Readable bs
read_when bs = (λ g. read_readable bs g.0 g.1, λ r. (_, readable_read bs r))

again : (bs : List ℕ) → ((b : ℕ) → get_or bs b 0 < 256) → (i : Instruction) → read bs ≡ gives i → (buffer : List ℕ) → length buffer ≡ 8
    → (write i buffer ≡ passes) × (stored i buffer ≡ bs)
again bs h i e buffer l =
    let j = read_legal bs i e in
    (written i j buffer l, stored_word i j buffer l ∙ written_read bs i e (are_bytes_lem bs h))

back : (i : Instruction) → LegalRecord i → (buffer : List ℕ) → length buffer ≡ 8 → (write i buffer ≡ passes) × (read (stored i buffer) ≡ gives i)
back i legal buffer l =
    let j = legal_judged i legal in
    (written i j buffer l, ap read (stored_word i j buffer l) ∙ read_written i j)

written_when : (i : Instruction) (buffer : List ℕ) → (write i buffer ≡ passes) ↔ (LegalRecord i × (length buffer ≡ 8))
unfolding write
written_when i buffer = (
  λ e.
      let a = then_gives (require (eqb (length buffer) 8) (refusal 8 0)) _ tt e in
      let b = then_gives (judge_instruction i) _ tt a.1 in
      (judged_legal i b.0, eqb-true _ _ (required _ (refusal 8 0) a.0)),
  λ p. (back i p.0 buffer p.1).0,
)

pub demand2 : Demand2 read write stored
demand2 = record { read_when = read_when; one_row = no_two; again = again; back = back; written_when = written_when }

-- ---- one call

pub read_as_asked : (bs : List ℕ) (a : Outcome Refusal Instruction) → ((b : ℕ) → get_or bs b 0 < 256) → a ≡ read bs → ReadAsAsked bs a
read_as_asked bs a h e =
    record {
      read_when = (λ g. (read_when bs).0 (g.0, sym e ∙ g.1), λ r. (((read_when bs).1 r).0, e ∙ ((read_when bs).1 r).1));
      again = λ i q buffer l. (again bs h i (sym e ∙ q) buffer l).1;
    }

pub written_as_asked : (i : Instruction) (buffer : List ℕ) (a : Outcome Refusal (Unit {0})) (after : List ℕ) → a ≡ write i buffer → after ≡ stored i buffer
    → WrittenAsAsked i buffer a after
unfolding stored
written_as_asked i buffer a after e s =
    record {
      written_when = (λ q. (written_when i buffer).0 (sym e ∙ q), λ p. e ∙ (written_when i buffer).1 p);
      back = λ q. let p = (written_when i buffer).0 (sym e ∙ q) in ap read s ∙ (back i p.0 buffer p.1).1;
      kept = λ f q. s ∙ ap (λ (o : Outcome Refusal (Unit {0})). kept_or o (little_bytes 8 (word_of i)) buffer) (sym e ∙ q);
    }

pub settled_write : (i : Instruction) (buffer : List ℕ) {a : Outcome Refusal (Unit {0})} {after : List ℕ} → (a ≡ write i buffer) × (after ≡ stored i buffer)
    → (a ≡ write i buffer) × ((after ≡ stored i buffer) × WrittenAsAsked i buffer a after)
settled_write i buffer {a} {after} p = (p.0, (p.1, written_as_asked i buffer a after p.0 p.1))

-- ---- lazy readers and writers

-- the words of examples A and B
word_a : List ℕ
word_a = 0x02 ∷ 0 ∷ 0 ∷ 0 ∷ 0 ∷ 0xC1 ∷ 0x91 ∷ 0 ∷ []

word_b : List ℕ
word_b = 0 ∷ 0 ∷ 0 ∷ 0 ∷ 0 ∷ 0 ∷ 0 ∷ 0x78 ∷ []

readable_a : Readable word_a
unfolding examples word_a little_bytes
readable_a = read_readable word_a _ (ap (λ (l : List (Outcome Refusal Instruction)). get_or l 0 (refuses (refusal 0 0))) examples_hold.reads)

readable_b : Readable word_b
unfolding examples word_b little_bytes
readable_b = read_readable word_b _ (ap (λ (l : List (Outcome Refusal Instruction)). get_or l 1 (refuses (refusal 0 0))) examples_hold.reads)

small : (xs : List ℕ) → T (are_bytes xs) → (b : ℕ) → get_or xs b 0 < 256
small [] t b = omega arith
small (x ∷ xs) t zero = ltb→lt x 256 (and_l (ltb x 256) (are_bytes xs) t)
small (x ∷ xs) t (suc b) = small xs (and_r (ltb x 256) (are_bytes xs) t) b

differ : (l : List ℕ) → word_a ≡ l → l ≡ word_b → ⊥
unfolding word_a word_b
differ l p q = let e = ap (λ (xs : List ℕ). get_or xs 0 0) (p ∙ q) in omega arith

module _ (writer : Instruction → List ℕ → Outcome Refusal (Unit {0})) (after : Instruction → List ℕ → List ℕ) where
  -- a reader that refuses whatever it is given
  pub refuses_all : (f : List ℕ → Refusal) → Demand2 (λ (bs : List ℕ). refuses (f bs)) writer after → ⊥
  refuses_all f d = never ((d.read_when word_b).1 readable_b).1

  -- a reader that gives the same record for every word that it reads
  pub one_record : (reader : List ℕ → Outcome Refusal Instruction) (i : Instruction) → ((bs : List ℕ) (j : Instruction) → reader bs ≡ gives j → j ≡ i)
      → Demand2 reader writer after → ⊥
  unfolding word_a word_b
  one_record reader i fixed d =
      let a = (d.read_when word_a).1 readable_a in
      let b = (d.read_when word_b).1 readable_b in
      let x = (d.again word_a (small word_a tt) a.0 a.1 (replicate 8 0) refl).1 in
      let y = (d.again word_b (small word_b tt) b.0 b.1 (replicate 8 0) refl).1 in
      differ (after i (replicate 8 0))
      (sym x ∙ ap (λ (j : Instruction). after j (replicate 8 0)) (fixed word_a a.0 a.1))
      (ap (λ (j : Instruction). after j (replicate 8 0)) (sym (fixed word_b b.0 b.1)) ∙ y)

-- a writer that leaves the buffer as it was
pub writes_nothing : (reader : List ℕ → Outcome Refusal Instruction) (writer : Instruction → List ℕ → Outcome Refusal (Unit {0}))
    → Demand2 reader writer (λ (i : Instruction) (bs : List ℕ). bs) → ⊥
unfolding word_b
writes_nothing reader writer d =
    let b = (d.read_when word_b).1 readable_b in
    let y = (d.again word_b (small word_b tt) b.0 b.1 (replicate 8 0) refl).1 in
    let e = ap (λ (xs : List ℕ). get_or xs 7 0) y in
    omega arith
