-- Each refusal has its reason: what is reported is wrong, and the half that is reported is missing and none lower is. Assumes nothing.
use mathlib.Core.Path.{◌≡◌, refl, sym, ◌∙◌}
use mathlib.Core.Bool.{Bool, true, false}
use mathlib.Core.List.{List, Memᴰ}
use mathlib.Core.Logic.{⊎_elim}
use Prim.Native.Nat.{ℕ, ◌^◌, ◌<◌}
use native.Mathlib.Nat.{lt_of_le_of_lt}
use native.Mathlib.Omega.{arith}
use borrow.Author.Tests.{ltb-true, ltb-false}
use lib.Bits.{or_lt}
use lib.Dec.{T, ltb}
use lib.IntN.{ℤ, pos, negsuc}
use lib.Pow.{are_bytes}
use Rattle.bits.specs.Fields.{choose}
use Rattle.bits.specs.Sets.{Has, has, lowest}
use Rattle.bits.specs.Halves.{Half, lower, upper, half_of, both, either, minus_halves}
use Rattle.bits.specs.declared.halves.Halves.{Halves}
use Rattle.bits.specs.Outcomes.{Outcome, gives, refuses, require, ◌then◌, first, each}
use Rattle.bits.proofs.OutcomeLaws.{never, told}
use Rattle.bits.proofs.FirstLaws.{either as from_either, first_refused, each_refused}
use Rattle.bits.proofs.Every.{clash}
use Rattle.bits.proofs.SetLaws.{has_or, has_true, true_has, lowest_in}
use Rattle.bits.proofs.HalfLaws.{in_either, has_missing}
use Rattle.record.specs.declared.instruction.Instruction.{Instruction}
use Rattle.record.specs.declared.answer.Refusal.{Refusal}
use Rattle.reading.specs.Reader.{read}
use Rattle.record.specs.Registers.{reads}
use Rattle.container.specs.declared.header.Header.{Header}
use Rattle.container.specs.Container.{count_of, words_of, eight}
use Rattle.container.specs.Opening.{Rejection, open_outcome}
use Rattle.safety.specs.declared.verdict.Finding.{Finding}
use Rattle.safety.specs.Program.{Program, successors, after, program_of}
use Rattle.safety.specs.Verdict.{Judgement, finding, none_missing, judge_opening, judge_reading, judge_word, judge_successor, judge_flow, judge_index, judge_program, verdict_of, plain, reported, lowest_half}
use Rattle.safety.specs.Reasons.{AtFault, LowestMissing, Wrong, entry_lacks, annotation_lacks, runs_off, successor_lacks, Reason, unopened, unreadable, wrong, Grounded}
use Rattle.safety.proofs.VerdictLaws.{some_of, inside_to}
use Rattle.safety.proofs.ProgramLaws.{minus_le, Small, reads_small, annotations_small}

-- of the halves that are missing, those of the lowest register
module _ (named held : Halves) (small : Small named) (some : ¬ (either (minus_halves named held) ≡ 0)) where
  abbrev Lacking : Halves
  Lacking = minus_halves named held

  abbrev R : ℕ
  R = lowest (either Lacking)

  lacking_lt : either Lacking < 2 ^ 64
  lacking_lt =
      or_lt 64 Lacking.low Lacking.high (lt_of_le_of_lt (minus_le named.low held.low) small.low) (lt_of_le_of_lt (minus_le named.high held.high) small.high)

  lowest_of : (R < 64) × Has (either Lacking) R × ((q : ℕ) → q < R → ¬ Has (either Lacking) q)
  lowest_of = lowest_in (either Lacking) lacking_lt (omega (arith, some))

  faulty : (h : Half) (r : ℕ) → Has (half_of h Lacking) r → AtFault named held h r
  faulty h r = (has_missing named held h r).0

  lower_none : (q : ℕ) → q < R → (k : Half) → ¬ AtFault named held k q
  lower_none q l k f = lowest_of.2 q l (in_either Lacking k q ((has_missing named held k q).1 f))

  pub missing_lowest : LowestMissing named held R (lowest_half Lacking)
  missing_lowest = go (has Lacking.low R) refl
    where
      go : (t : Bool) → has Lacking.low R ≡ t → LowestMissing named held R (choose t lower upper)
      go true e = record { is = lowest_of.0; fault = faulty lower R (true_has Lacking.low R e); lowest = lower_none; low_first = λ q. differ q }
        where
          differ : {X : Type 0} → lower ≡ upper → X
          differ q = let z : ◌≡◌ {A = ℕ} 0 1 = cc in absurd (omega arith)
      go false e =
          let none : ¬ Has Lacking.low R = λ k. clash (sym (has_true Lacking.low R k) ∙ e) in
          record {
            is = lowest_of.0;
            fault = faulty upper R (⊎_elim (λ k. absurd (none k)) (λ k. k) ((has_or Lacking.low Lacking.high R).0 lowest_of.1));
            lowest = lower_none;
            low_first = λ q f. none ((has_missing named held lower R).1 f);
          }

-- what a test for missing halves reports
reported_of : (n i : ℕ) (named held : Halves) {f : Finding} → Small named → none_missing n i named held ≡ refuses f
    → (r : ℕ) × (h : Half) × LowestMissing named held r h × (f ≡ finding n 0 i r (reported h))
reported_of n i named held z e =
    let s = some_of n i named held e in
    (lowest (either (minus_halves named held)), lowest_half (minus_halves named held), missing_lowest named held z s.0, s.1)

module _ (p : Program) (small : (i : ℕ) → Small (p.annotation i)) where
  module _ (i : ℕ) (l : i < p.count) where
    abbrev Held : Halves
    Held = after p.version (p.instruction i) (p.annotation i)

    successor_wrong : (z : ℤ) → Memᴰ z (successors (p.instruction i) i) → {f : Finding}
        → judge_successor p.count p.annotation i Held z ≡ refuses f → Wrong p f
    unfolding judge_successor ◌then◌
    successor_wrong (pos j) q {f} e = go (ltb j p.count) refl (λ (h : j < p.count). inside_to p.count p.annotation i Held j h ∙ e) e
      where
        go : (t : Bool) → ltb j p.count ≡ t → (j < p.count → none_missing 22 i (p.annotation j) Held ≡ refuses f)
            → (require t (plain 21 0 i) then none_missing 22 i (p.annotation j) Held) ≡ refuses f → Wrong p f
        go true t k e =
            let h = ltb-true j p.count t in
            let r = reported_of 22 i (p.annotation j) Held (small j) (k h) in
            rw r.3 (successor_lacks i j r.0 r.1 l q h r.2)
        go false t k e =
            let h = ltb-false j p.count t in
            rw (told (sym e)) (runs_off i (pos j) l q (λ s. let same : j ≡ s.index = index_of s.is in omega (arith, s.below)))
          where
            index_of : {a b : ℕ} → pos a ≡ pos b → a ≡ b
            index_of e = cc
    successor_wrong (negsuc k) q e = rw (told (sym e)) (runs_off i (negsuc k) l q (λ s. differ s.is))
      where
        differ : {j : ℕ} → negsuc k ≡ pos j → ⊥
        differ e = let z : ◌≡◌ {A = ℕ} 0 1 = cc in omega arith

    instruction_wrong : {f : Finding} → judge_index p i ≡ refuses f → Wrong p f
    unfolding judge_flow
    instruction_wrong {f} e =
        let read = both (reads (p.instruction i)) in
        ⊎_elim
        (λ q. let r = reported_of 20 i read (p.annotation i) (reads_small (p.instruction i)) q in
        rw r.3 (annotation_lacks i r.0 r.1 l r.2))
        (λ q. let s = each_refused (judge_successor p.count p.annotation i Held) (successors (p.instruction i) i) q in
        successor_wrong s.0 s.1 s.2)
        (from_either (none_missing 20 i read (p.annotation i))
        (each (judge_successor p.count p.annotation i Held) (successors (p.instruction i) i)) e)

  program_wrong : {f : Finding} → judge_program p ≡ refuses f → Wrong p f
  unfolding judge_program
  program_wrong {f} e =
      ⊎_elim
      (λ q. let r = reported_of 23 0 (p.annotation 0) p.entry (small 0) q in rw r.3 (entry_lacks r.0 r.1 r.2))
      (λ q. let s = first_refused (judge_index p) p.count q in instruction_wrong s.0 s.1 s.2)
      (from_either (none_missing 23 0 (p.annotation 0) p.entry) (first (judge_index p) p.count) e)

module _ (s : List ℕ) where
  opening_wrong : {f : Finding} → judge_opening (open_outcome s) ≡ refuses f → Reason s f
  opening_wrong {f} e = go (open_outcome s) refl e
    where
      go : (o : Outcome Rejection Header) → open_outcome s ≡ o → judge_opening o ≡ refuses f → Reason s f
      go (gives h) p q = never (sym q)
      go (refuses n) p q = rw (told (sym q)) (unopened n p)

  word_wrong : (i : ℕ) → i < count_of s → {f : Finding} → judge_word (words_of s) i ≡ refuses f → Reason s f
  word_wrong i l {f} e = go (read (eight (words_of s) i)) refl e
    where
      go : (o : Outcome Refusal Instruction) → read (eight (words_of s) i) ≡ o → judge_reading i o ≡ refuses f → Reason s f
      go (gives x) p q = never (sym q)
      go (refuses g) p q = rw (told (sym q)) (unreadable i g l p)

  -- every refusal has its reason
  pub reason : T (are_bytes s) → {f : Finding} → verdict_of s ≡ refuses f → Reason s f
  unfolding verdict_of
  reason t {f} e =
      let words = first (judge_word (words_of s)) (count_of s) in
      ⊎_elim opening_wrong
      (λ q. ⊎_elim
      (λ u. let w = first_refused (judge_word (words_of s)) (count_of s) u in word_wrong w.0 w.1 w.2)
      (λ u. wrong f (program_wrong (program_of s) (annotations_small s t) u))
      (from_either words (judge_program (program_of s)) q))
      (from_either (judge_opening (open_outcome s)) (words then judge_program (program_of s)) e)

  -- so a judgement that agrees with the verdict tells what is so
  pub grounded : (v : Judgement) → T (are_bytes s) → v ≡ verdict_of s → Grounded s v
  grounded (gives _) t e = tt
  grounded (refuses f) t e = reason t (sym e)
