-- What paper 02, Items 1 and 7, asks of a maker of annotations (the paper's notes), said of any maker.
use Rattle.std.specs.Prelude.{◌≡◌, true, false, List, ◌↔◌, ℕ, ◌^◌, ◌<◌, T, length}
use Rattle.std.proofs.Math.Pow.{are_bytes}
use Rattle.bits.specs.Halves.{halves}
use Rattle.bits.specs.declared.halves.Halves.{Halves}
use Rattle.bits.specs.Outcomes.{Outcome, gives, refuses, passes}
use Rattle.record.specs.declared.answer.Refusal.{Refusal}
use Rattle.reading.specs.Reader.{read}
use Rattle.container.specs.Formats.{known}
use Rattle.container.specs.Container.{eight}
use Rattle.packing.specs.Packing.{word_count, Fitting, container_bytes}
use Rattle.walks.specs.Walks.{AllReached, Exact}
use Rattle.walks.specs.Sweeps.{Reports}
use Rattle.safety.specs.declared.verdict.Finding.{Finding}
use Rattle.safety.specs.Program.{Fact, In, annotation_at, machine, machine_of}
use Rattle.safety.specs.Verdict.{verdict_of, plain}
use Rattle.safety.specs.Passed.{ReadBefore, Unreadable, PassedOn}
use Rattle.infer.specs.Inference.{unannotated, none_acceptable, infer_outcome, infer_buffer}

-- the check accepts the container of this version, these words, this entry set and these annotations
abbrev pub Acceptable : ℕ → List ℕ → Halves → List ℕ → Type 0
Acceptable v words entry annotations = verdict_of (container_bytes v entry words annotations) ≡ passes

-- what is asked of an answer and of the buffer afterwards, without a word of how the annotations are found
pub record AsAsked (v : ℕ) (words : List ℕ) (entry : Halves) (buffer : List ℕ) (answer : Outcome Finding ℕ) (after : List ℕ) : Type 0 where
  -- 11 where there is no such version,
  pub unknown : known v ≡ false → answer ≡ refuses (plain 11 0 0)
  -- then 12 where a length is wrong,
  pub unfit : known v ≡ true → (¬ Fitting v (length words) (length buffer)) → answer ≡ refuses (plain 12 0 0)
  -- then the lowest word that does not read: its own number and place, and its index,
  pub unreadable : known v ≡ true → Fitting v (length words) (length buffer) → (i : ℕ) → i < word_count (length words) → ReadBefore words i
      → (f : Refusal) → read (eight words i) ≡ refuses f → answer ≡ refuses (plain f.number f.place i)
  -- so that a refusal of a word is the reader's own, passed on unchanged (02, Item 5),
  pub passed : (f : Finding) → answer ≡ refuses f → Unreadable f → PassedOn words (word_count (length words)) f
  -- then 24, and no other refusal,
  pub refused : known v ≡ true → Fitting v (length words) (length buffer) → ReadBefore words (word_count (length words))
      → (f : Finding) → answer ≡ refuses f → f ≡ none_acceptable
  -- exactly if the check would accept no annotations at all
  pub none : known v ≡ true → Fitting v (length words) (length buffer) → ReadBefore words (word_count (length words))
      → ((answer ≡ refuses none_acceptable) ↔ ((others : List ℕ) → T (are_bytes others) → ¬ Acceptable v words entry others))
  -- a number that is given is that of the sweeps, the last, unchanging one included, of the program of this version, these words and this
  -- entry set
  pub counted : (k : ℕ) → answer ≡ gives k → Reports (machine (unannotated v words entry)) k
  -- what is proposed is accepted,
  pub accepted : (k : ℕ) → answer ≡ gives k → Acceptable v words entry after
  -- it contains, index by index and half by half, whatever annotations the check accepts,
  pub largest : (k : ℕ) → answer ≡ gives k → (others : List ℕ) → T (are_bytes others) → Acceptable v words entry others
      → (i : ℕ) → i < word_count (length words) → (g : Fact) → In (annotation_at v others i) g → In (annotation_at v after i) g
  -- and where every instruction lies on a walk it names exactly the halves that are held on every walk that arrives
  pub exact : (k : ℕ) → answer ≡ gives k → AllReached (machine_of (container_bytes v entry words after))
      → Exact (machine_of (container_bytes v entry words after))
  -- a refusal leaves the buffer
  pub kept : (f : Finding) → answer ≡ refuses f → after ≡ buffer

-- the same, and answer and buffer are those of the sweeps as they are run
pub record Inferred (v : ℕ) (words : List ℕ) (entry : Halves) (buffer : List ℕ) (answer : Outcome Finding ℕ) (after : List ℕ) : Type 0 where
  pub answers : answer ≡ infer_outcome v words entry buffer
  pub leaves : after ≡ infer_buffer v words entry buffer
  pub asked : AsAsked v words entry buffer answer after

-- a maker: for a version, words, an entry set and a buffer, what it answers, and what the buffer holds afterwards
pub record Maker : Type 0 where
  pub answer : ℕ → List ℕ → Halves → List ℕ → Outcome Finding ℕ
  pub after : ℕ → List ℕ → Halves → List ℕ → List ℕ

-- of a maker that is told version v: so for all bytes, and all entry sets of halves of 64 registers
abbrev pub AskedIn : ℕ → Maker → Type 0
AskedIn v m =
    (words : List ℕ) (entry : Halves) (buffer : List ℕ) → T (are_bytes words) → T (are_bytes buffer) → entry.low < 2 ^ 64 → entry.high < 2 ^ 64
    → Inferred v words entry buffer (m.answer v words entry buffer) (m.after v words entry buffer)

-- and for all versions
abbrev pub Asked : Maker → Type 0
Asked m = (v : ℕ) → AskedIn v m

-- in version 1 the low halves are the entry set, and the high ones play no part
abbrev pub LowAlone : Maker → Type 0
LowAlone m =
    (words : List ℕ) (low high other : ℕ) (buffer : List ℕ)
    → (m.answer 1 words (halves low high) buffer ≡ m.answer 1 words (halves low other) buffer)
    × (m.after 1 words (halves low high) buffer ≡ m.after 1 words (halves low other) buffer)
