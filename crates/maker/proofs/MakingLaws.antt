-- What is made of an input, step by step. Assumes nothing.
use mathlib.Core.Path.{◌≡◌, refl, sym, ap, ◌∙◌}
use mathlib.Core.Bool.{Bool, true, false}
use mathlib.Core.List.{List, ◌∷◌}
use Prim.Native.Nat.{ℕ, zero, suc, ◌+◌, ◌*◌, ◌-◌, ◌<◌, ◌≤◌}
use native.Mathlib.Omega.{arith}
use borrow.Author.Tests.{le-leb, lt-leb, ltb-true, ltb-false}
use lib.Dec.{ltb}
use lib.ListN.{length, take, drop, replicate, length-take, length-drop, length-replicate}
use lib.Seq.{take_all, take-take, length-take-le}
use Rattle.bits.specs.Bytes.{little}
use Rattle.bits.specs.declared.halves.Halves.{Halves}
use Rattle.bits.specs.Outcomes.{Outcome, gives, refuses, require, ◌then◌}
use Rattle.bits.proofs.OutcomeLaws.{never, then_gives}
use Rattle.container.specs.declared.format.Format.{Format}
use Rattle.container.specs.Formats.{known, format_of, annotation_length, container_length}
use Rattle.container.proofs.FormatLaws.{bounded, bounded_by, at_most}
use Rattle.packing.specs.Packing.{word_count, fitting, Fitting, pack_buffer}
use Rattle.packing.proofs.PackLaws.{fitting_of, fitting_to, few_words as fitting_few, packs}
use Rattle.safety.specs.declared.verdict.Finding.{Finding}
use Rattle.safety.specs.Verdict.{plain}
use Rattle.infer.specs.Inference.{infer_outcome}
use Rattle.infer.specs.Asked.{Inferred}
use Rattle.infer.proofs.NumberedLaws.{given}
use Rattle.input.specs.Input.{Input}
use Rattle.maker.specs.Making.{read_length, version_in, words_in, entry_in, blank, answer_to, notes_for, made, Read, Parted}

-- the first k of n equal numbers
pub lent : (v n k : ℕ) → k ≤ n → take k (replicate n v) ≡ replicate k v
lent v n zero h = refl
lent v zero (suc k) h = absurd (omega arith)
lent v (suc n) (suc k) h = ap (λ (l : List ℕ). v ∷ l) (lent v n k (omega arith))

pub lent_length : (v n k : ℕ) → k ≤ n → k ≡ length (take k (replicate n v))
lent_length v n k h = sym (length-take k (replicate n v) ∙ omega (arith, length-replicate n v))

-- an input that is too short for what stands before the words
pub too_short : (s : List ℕ) → length s < 24 → answer_to s ≡ refuses (plain 12 0 0)
unfolding answer_to ◌then◌
too_short s h = rw (lt-leb 24 (length s) h)

-- what is read is parted
pub parted : (s : List ℕ) → 24 ≤ length s → {version : ℕ} {entry : Halves} → version ≡ version_in s → entry ≡ entry_in s
    → Parted s version entry (take (length s - 24) (drop 24 s))
parted s h v e = record { long = h; version = v; entry = e; words = take_all (length s - 24) (drop 24 s) (omega (arith, length-drop 24 s)) }

module _ {s : List ℕ} {v : ℕ} {entry : Halves} {words : List ℕ} (p : Parted s v entry words) where
  -- there are no more words than a program has,
  pub few_words : {input : Input} → Read input s → word_count (length words) ≤ 2048
  few_words r = let l = ap length p.words ∙ length-drop 24 s in omega (arith, r.few)

  -- so the annotations and the container of any version have room in the longest ones
  pub notes_room : {input : Input} → Read input s → {f : Format} → f ≡ format_of v → f.annotation * word_count (length words) ≤ 32768
  notes_room r {f} e = at_most {a = f.annotation} {b = word_count (length words)} 16 2048 (bounded_by v e).annotation_most (few_words r)

  pub whole_room : {input : Input} → Read input s → {n : ℕ} → n ≡ container_length v (word_count (length words)) → n ≤ 49176
  whole_room r e =
      let l = at_most {a = 8 + annotation_length v} {b = word_count (length words)} 24 2048 (omega (arith, (bounded v).annotation_most)) (few_words r) in
      omega (arith, l, (bounded v).header_most, e)

  pub answers : answer_to s ≡ infer_outcome v words entry (blank v words)
  unfolding answer_to ◌then◌
  answers = rw (le-leb 24 (length s) p.long, p.version, p.entry, p.words)

  module _ {notes : List ℕ} (b : notes ≡ blank v words) {o : Outcome Finding ℕ} {after : List ℕ} (i : Inferred v words entry notes o after) where
    pub answered : answer_to s ≡ o
    answered = answers ∙ ap (infer_outcome v words entry) (sym b) ∙ sym i.answers

    pub noted : after ≡ notes_for s
    unfolding notes_for
    noted = i.leaves ∙ rw (b, p.version, p.entry, p.words)

    -- where something is proposed, the version is there and the lengths are right
    pub fits : {k : ℕ} → o ≡ gives k → length after ≡ length notes → (known v ≡ true) × Fitting v (length words) (length after)
    fits {k} e l = let g = given v words entry notes k (sym i.answers ∙ e) in (g.0, rw l g.1)

  -- what is packed is what is sent
  pub packed : (out : List ℕ) {notes after : List ℕ} → notes ≡ notes_for s → known v ≡ true → Fitting v (length words) (length notes)
      → length out ≡ container_length v (word_count (length words)) → after ≡ pack_buffer v entry words notes out → after ≡ made s
  unfolding made
  packed out {notes} {after} n k f l e =
      e ∙ sym (packs v entry words notes out k (fitting_to _ _ _ f) l).1 ∙ rw (n, p.version, p.entry, p.words)

-- what is read of an input that is longer is enough: the version tells its refusal
Late : ℕ → Outcome Finding ℕ
Late v = require (known v) (plain 11 0 0) then refuses (plain 12 0 0)

module _ (s : List ℕ) (h : read_length ≤ length s) where
  too_long : answer_to s ≡ Late (version_in s)
  unfolding answer_to infer_outcome ◌then◌ Late
  too_long = go (fitting (version_in s) (length (words_in s)) (length (blank (version_in s) (words_in s)))) refl
    where
      go : (t : Bool) → fitting (version_in s) (length (words_in s)) (length (blank (version_in s) (words_in s))) ≡ t → answer_to s ≡ Late (version_in s)
      go true e = let f = fitting_of _ _ _ e in absurd (omega (arith, fitting_few _ _ _ f, f.whole, length-drop 24 s))
      go false e = rw (le-leb 24 (length s) (omega arith), e)

  late_refused : {k : ℕ} → ¬ (answer_to s ≡ gives k)
  unfolding Late
  late_refused {k} e = never (then_gives (require (known (version_in s)) (plain 11 0 0)) _ k (sym too_long ∙ e)).1

pub answer_from_the_front : (s : List ℕ) → answer_to (take read_length s) ≡ answer_to s
answer_from_the_front s = go (ltb (length s) read_length) refl
  where
    go : (t : Bool) → ltb (length s) read_length ≡ t → answer_to (take read_length s) ≡ answer_to s
    go true e = ap answer_to (take_all read_length s (let h = ltb-true (length s) read_length e in omega arith))
    go false e =
        let h = ltb-false (length s) read_length e in
        too_long (take read_length s) (rw (length-take-le read_length s h) (omega arith))
        ∙ ap (λ (f : List ℕ). Late (little f)) (take-take 8 read_length s (omega arith))
        ∙ sym (too_long s h)

pub made_from_the_front : (s : List ℕ) (k : ℕ) → answer_to s ≡ gives k → made (take read_length s) ≡ made s
made_from_the_front s k g = go (ltb (length s) read_length) refl
  where
    go : (t : Bool) → ltb (length s) read_length ≡ t → made (take read_length s) ≡ made s
    go true e = ap made (take_all read_length s (let h = ltb-true (length s) read_length e in omega arith))
    go false e = absurd (late_refused s (ltb-false (length s) read_length e) g)
