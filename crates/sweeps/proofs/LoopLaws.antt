-- The loop of sweeps over one half: what holds before each, and what the last one leaves; and both halves together. Assumes nothing.
use mathlib.Core.Path.{◌≡◌, sym, ap, ap₂, ◌∙◌, subst⁻¹}
use mathlib.Core.Bool.{Bool, true, false, not}
use mathlib.Core.List.{List}
use mathlib.Core.Logic.{⊎_elim}
use Prim.Native.Nat.{ℕ, suc, max, ◌+◌, ◌<◌, ◌≤◌}
use native.Mathlib.Nat.{eq-or-lt_of_le, le_of_suc-le-suc}
use native.Mathlib.Numerals.{add-one}
use native.Mathlib.Omega.{arith}
use borrow.Author.Tests.{not-true, not-false}
use lib.ListN.{length, get_or}
use Rattle.bits.specs.Halves.{Half, lower, upper, halves, both}
use Rattle.container.specs.Formats.{most_instructions}
use Rattle.container.proofs.FormatLaws.{known_one}
use Rattle.packing.specs.Packing.{taken}
use Rattle.packing.proofs.PackLaws.{taken_low, taken_whole}
use Rattle.safety.specs.Program.{Program}
use Rattle.safety.proofs.ProgramLaws.{Small}
use Rattle.sweeps.specs.Sweeps.{note, sweeps}
use Rattle.sweeps.specs.Served.Tracks.{half_note, same_sets, half_unchanged}
use Rattle.sweeps.specs.Served.Plan.{Ranged, Holds, Begun, Rested, BothBegun, BothRested, swept_list}
use Rattle.sweeps.proofs.PlanLaws.{length_swept, swept_is}
use Rattle.sweeps.proofs.SameLaws.{sets_ext}
use Rattle.sweeps.proofs.TrackLaws.{note_next, swept_ext, still_moves, counted, number, settled, version_1_sweeps, note_taken}

pub small_entry : {p : Program} → Ranged p → Small p.entry
small_entry s = record { low = s.low; high = s.high }

-- before sweep k + 1: both lists have the notes after k sweeps, and each of these changed something
pub record Running (p : Program) (h : Half) (a b : List ℕ) (k : ℕ) : Type 0 where
  pub new : Holds p h k a
  pub notes : Holds p h k b
  pub moved : (i : ℕ) → i < k → half_unchanged p h i ≡ false

module _ {p : Program} {h : Half} {ks ds fs js notes₀ : List ℕ} (begun : Begun p h ks ds fs js notes₀) where
  pub runs_first : {new : List ℕ} → new ≡ notes₀ → Running p h new notes₀ 0
  runs_first e = record { new = subst⁻¹ (Holds p h 0) e begun.notes; notes = begun.notes; moved = λ i l. absurd (omega arith) }

  module _ {new notes : List ℕ} {k : ℕ} (run : Running p h new notes k) where
    -- the limit is not reached
    pub within : k ≤ most_instructions
    within = omega (arith, still_moves p (small_entry begun.ranged) h k run.moved, begun.ranged.few)

    module _ {next : List ℕ} (e : next ≡ swept_list ks ds fs js notes new (length notes)) where
      made : Holds p h (suc k) next
      made = record {
        long = ap length e ∙ length_swept ks ds fs js notes new (length notes) ∙ run.new.long;
        are = λ j l.
            ap (λ (x : List ℕ). get_or x j 0) (e ∙ ap (swept_list ks ds fs js notes new) run.notes.long)
            ∙ swept_is p h ks ds fs js notes new begun.plan run.new.long (λ i q. run.new.are i q ∙ sym (run.notes.are i q)) p.count (omega arith) j l
            ∙ swept_ext p h (λ i. get_or notes i 0) (half_note p h k) run.notes.are p.count (omega arith) j l
            ∙ sym (note_next p h k j);
      }

      module _ {r : Bool} (c : r ≡ not (same_sets (length notes) (λ j. get_or next j 0) (λ j. get_or notes j 0))) where
        tells : r ≡ not (half_unchanged p h k)
        unfolding half_unchanged
        tells = c ∙ ap not (ap (λ (n : ℕ). same_sets n (λ j. get_or next j 0) (λ j. get_or notes j 0)) run.notes.long ∙ sets_ext p.count made.are run.notes.are)

        pub goes_on : r ≡ true → {after : List ℕ} → after ≡ next → Running p h next after (k + 1)
        goes_on t s =
            rw (s, add-one k) (record { new = made; notes = made; moved = more })
          where
            more : (i : ℕ) → i < suc k → half_unchanged p h i ≡ false
            more i l = ⊎_elim (λ q. rw q (not-true (half_unchanged p h k) (sym tells ∙ t))) (λ q. run.moved i q) (eq-or-lt_of_le (le_of_suc-le-suc l))

        pub stops : r ≡ false → {after : List ℕ} → after ≡ next → Rested p h (k + 1) after
        stops t s =
            let last = counted p (small_entry begun.ranged) h k run.moved (not-false (half_unchanged p h k) (sym tells ∙ t)) in
            rw (s, add-one k) (record { counted = last; notes = rw (← last) made })

-- both halves came to rest
module _ {p : Program} {ks ls hs fs js lows₀ highs₀ : List ℕ} (begun : BothBegun p ks ls hs fs js lows₀ highs₀) where
  small : Small p.entry
  small = small_entry begun.low.ranged

  -- the notes of one half
  rested_note : {h : Half} {k : ℕ} {l : List ℕ} → Rested p h k l → (j : ℕ) → j < p.count → get_or l j 0 ≡ half_note p h (sweeps p) j
  rested_note {h} r j q = r.notes.are j q ∙ settled p small h j q

  -- in version 1 the low ones are enough
  pub low_enough : p.version ≡ 1 → {k : ℕ} {lows : List ℕ} → Rested p lower k lows → (highs : List ℕ) → BothRested p k lows highs
  low_enough e {k} {lows} r highs = record {
    counted = r.counted ∙ version_1_sweeps p begun.entered e small;
    long = r.notes.long;
    notes = λ j l.
        ap (λ (v : ℕ). taken v (halves (get_or lows j 0) (get_or highs j 0))) e
        ∙ taken_low (halves (get_or lows j 0) (get_or highs j 0))
        ∙ ap both (rested_note r j l)
        ∙ sym (taken_low (note p (sweeps p) j))
        ∙ ap (λ (v : ℕ). taken v (note p (sweeps p) j)) (sym e)
        ∙ note_taken p begun.entered begun.is_known (sweeps p) j;
  }

  -- else the sweeps are those of the half that takes more
  pub more_of_both : (¬ (p.version ≡ 1)) → {k m : ℕ} {lows highs : List ℕ} → Rested p lower k lows → Rested p upper m highs → {r : ℕ} → r ≡ max k m
      → BothRested p r lows highs
  more_of_both n {k} {m} {lows} {highs} low high q = record {
    counted = q ∙ ap₂ max low.counted high.counted ∙ sym (number p small);
    long = low.notes.long;
    notes = λ j l.
        ap (λ (v : ℕ). taken v (halves (get_or lows j 0) (get_or highs j 0))) two
        ∙ taken_whole (halves (get_or lows j 0) (get_or highs j 0))
        ∙ ap₂ halves (rested_note low j l) (rested_note high j l);
  }
    where
      two : p.version ≡ 2
      two = ⊎_elim (λ e. absurd (n e)) (λ e. e) (known_one p.version begun.is_known)
