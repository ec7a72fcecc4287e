-- The listing is what the paper asks, in terms of well-formed containers, and no digit of a verdict is lost. Assumes nothing.
use mathlib.Core.Path.{◌≡◌, refl, sym, ap, ◌∙◌, subst}
use mathlib.Core.List.{List, [], ◌∷◌, ◌++◌}
use mathlib.Core.Logic.{◌↔◌}
use Prim.Native.Nat.{ℕ, ◌<◌, ◌≤◌}
use native.Mathlib.Omega.{arith}
use lib.Dec.{T, lit<}
use lib.Pow.{are_bytes}
use Rattle.bits.specs.Halves.{Half, lower, upper}
use Rattle.container.specs.Formats.{most_instructions}
use Rattle.bits.proofs.FirstLaws.{first_refused}
use Rattle.bits.specs.Outcomes.{Outcome, gives, refuses, passes, ◌then◌, first}
use Rattle.bits.proofs.OutcomeLaws.{never, then_refused, told, Refusals}
use Rattle.record.specs.declared.instruction.Instruction.{Instruction}
use Rattle.record.specs.declared.answer.Refusal.{Refusal}
use Rattle.record.proofs.NumberedLaws.{Numbered}
use Rattle.reading.specs.Reader.{read}
use Rattle.reading.proofs.NumberedLaws.{read_numbers, read_places}
use Rattle.container.specs.declared.header.Header.{Header}
use Rattle.container.specs.Container.{count_of, words_of, eight}
use Rattle.container.specs.Opening.{Rejection, open_outcome, Opens}
use Rattle.container.proofs.OpeningLaws.{sized}
use Rattle.container.proofs.NumberedLaws.{Unopened, open_numbers}
use Rattle.safety.specs.declared.verdict.Reported.TheVariants.{Neither, Low, High}
use Rattle.safety.specs.declared.verdict.Finding.{Finding}
use Rattle.safety.specs.Program.{Program, program_of, WellFormed}
use Rattle.safety.specs.Verdict.{Judgement, finding, plain, reported, judge_opening, judge_reading, judge_word, judge_program, verdict_of, all_read}
use Rattle.safety.specs.Reasons.{Wrong, entry_lacks, annotation_lacks, runs_off, successor_lacks, Reason, unopened, unreadable, wrong}
use Rattle.safety.proofs.ReasonLaws.{reason}
use Rattle.safety.proofs.ReadLaws.{formed, all_of, goes_on}
use Rattle.safety.proofs.Demand3.{opening_of}
use Rattle.safety.specs.Passed.{Unreadable, PassedOn}
use Rattle.safety.proofs.PassedLaws.{of_words, passes_on}
use Rattle.text.specs.Text.{space, line_feed, decimal}
use Rattle.verdictline.specs.VerdictLine.{refusal_fields, verdict_line}
use Rattle.listing.specs.Listing.{listing}
use Rattle.verdictline.proofs.PlaceLaws.{line_placed, place_there, no_place}
use Rattle.listing.specs.Asked.{Shown, ListedAsAsked}
use Rattle.listing.proofs.NumberLaws.{opens, reads}
use Rattle.listing.proofs.ListingLaws.{listing_read, listing_unread}

-- the digits of a refusal, by its reason
told_letter : (h : Half) (r : ℕ) → r < 64 → (reported h ≡ Neither) ↔ (r ≡ 64)
told_letter lower r l = (λ e. absurd (differ e), λ e. absurd (omega (arith, l, e)))
  where
    differ : Low ≡ Neither → ⊥
    differ e = let z : ◌≡◌ {A = ℕ} 0 1 = cc in omega arith
told_letter upper r l = (λ e. absurd (differ e), λ e. absurd (omega (arith, l, e)))
  where
    differ : High ≡ Neither → ⊥
    differ e = let z : ◌≡◌ {A = ℕ} 0 1 = cc in omega arith

-- with no register and no half
plain_shown : (n p i : ℕ) → n < 100 → i < 10000 → p < 100 → Shown (plain n p i)
plain_shown n p i a b c = record { number = a; index = b; register = lit< tt; place = c; letter = (λ e. refl, λ e. refl) }

-- with both
half_shown : (n i r : ℕ) (h : Half) → n < 100 → i < 10000 → r < 64 → Shown (finding n 0 i r (reported h))
half_shown n i r h a b c = record { number = a; index = b; register = omega (arith, c); place = lit< tt; letter = told_letter h r c }

wrong_shown : (p : Program) → p.count ≤ most_instructions → {f : Finding} → Wrong p f → Shown f
wrong_shown p h (entry_lacks r k m) = half_shown 23 0 r k (lit< tt) (lit< tt) m.is
wrong_shown p h (annotation_lacks i r k l m) = half_shown 20 i r k (lit< tt) (omega arith) m.is
wrong_shown p h (runs_off i z l q o) = plain_shown 21 0 i (lit< tt) (omega arith) (lit< tt)
wrong_shown p h (successor_lacks i j r k l q b m) = half_shown 22 i r k (lit< tt) (omega arith) m.is

unopened_shown : (o : Outcome Rejection Header) → Refusals Unopened o → {f : Finding} → judge_opening o ≡ refuses f → Shown f
unopened_shown (gives h) p e = never (sym e)
unopened_shown (refuses r) p e = subst Shown (told e) (plain_shown r.number r.place 0 (omega (arith, (p r refl).0.1)) (lit< tt) (omega (arith, (p r refl).1)))

unread_shown : (i : ℕ) → i < 10000 → (o : Outcome Refusal Instruction) → Refusals (Numbered 1 7) o → Refusals (λ (f : Refusal). f.place < 64) o
    → {f : Finding} → judge_reading i o ≡ refuses f → Shown f
unread_shown i h (gives x) p q e = never (sym e)
unread_shown i h (refuses g) p q e =
    subst Shown (told e) (plain_shown g.number g.place i (omega (arith, (p g refl).1)) h (omega (arith, q g refl)))

module _ (s : List ℕ) where
  few : Opens s → count_of s ≤ most_instructions
  few o = (sized s o).few

  -- before all words are read
  early_shown : {f : Finding} → all_read s ≡ refuses f → Shown f
  unfolding all_read ◌then◌
  early_shown {f} e = go (judge_opening (open_outcome s)) refl e
    where
      go : (a : Judgement) → judge_opening (open_outcome s) ≡ a → (a then first (judge_word (words_of s)) (count_of s)) ≡ refuses f → Shown f
      go (gives tt) o q =
          let w = first_refused (judge_word (words_of s)) (count_of s) q in
          unread_shown w.0 (omega (arith, w.1, few (opening_of s o))) (read (eight (words_of s) w.0)) (read_numbers (eight (words_of s) w.0))
          (read_places (eight (words_of s) w.0)) w.2
      go (refuses g) o q = unopened_shown (open_outcome s) (open_numbers s) (o ∙ q)

  -- and after
  late_shown : all_read s ≡ passes → {f : Finding} → Reason s f → Shown f
  late_shown all (unopened n o) = unopened_shown (open_outcome s) (open_numbers s) (ap judge_opening o)
  late_shown all (unreadable i g l e) = never (sym (ap (judge_reading i) e) ∙ reads s all i l)
  late_shown all (wrong f w) = wrong_shown (program_of s) (few (opening_of s (opens s all))) w

  shown : T (are_bytes s) → (f : Finding) → verdict_of s ≡ refuses f → Shown f
  shown t f e = go (all_read s) refl
    where
      go : (a : Judgement) → all_read s ≡ a → Shown f
      go (gives tt) q = late_shown q (reason s t e)
      go (refuses g) q = early_shown (q ∙ sym (goes_on s ∙ then_refused (judge_program (program_of s)) q) ∙ e)

  otherwise : (¬ WellFormed s) → (f : Finding) × (all_read s ≡ refuses f)
  otherwise n = go (all_read s) refl
    where
      go : (a : Judgement) → all_read s ≡ a → (f : Finding) × (all_read s ≡ refuses f)
      go (gives tt) q = absurd (n (formed s q))
      go (refuses f) q = (f, q)

  -- a word that does not read
  unformed : {f : Finding} → PassedOn (words_of s) (count_of s) f → ¬ WellFormed s
  unformed {f} p w = never (sym p.refused ∙ (w.reads f.index p.is).1)

  passed : (f : Finding) → verdict_of s ≡ refuses f → Unreadable f
      → PassedOn (words_of s) (count_of s) f × (listing s ≡ refusal_fields f ++ ((space ∷ decimal 2 f.place) ++ (line_feed ∷ [])))
  passed f e u =
      let p = of_words s f e u in
      (p, listing_unread s (otherwise (unformed p)).1 ∙ ap verdict_line e ∙ line_placed f (sym (place_there f u.0 u.1)))

  unplaced : (f : Finding) → verdict_of s ≡ refuses f → (¬ Unreadable f) → verdict_line (verdict_of s) ≡ refusal_fields f ++ (line_feed ∷ [])
  unplaced f e n = ap verdict_line e ∙ line_placed f (no_place f n)

  -- and is told with 2 to 7
  numbered : Opens s → (¬ WellFormed s) → (f : Finding) → verdict_of s ≡ refuses f → Unreadable f
  numbered = passes_on.numbered s

pub listed_as_asked : (s : List ℕ) → T (are_bytes s) → ListedAsAsked s (listing s)
listed_as_asked s t = record {
  well_formed = λ f. listing_read s (all_of s f);
  few = λ f. few s f.opens;
  otherwise = λ n. listing_unread s (otherwise s n).1;
  unreadable = numbered s;
  passed = passed s;
  unplaced = unplaced s;
  shown = shown s t;
}
