-- The sweeps give what is asked of a maker of annotations. Assumes nothing.
use mathlib.Core.Path.{◌≡◌, refl, sym, ap, ◌∙◌, subst}
use mathlib.Core.Bool.{Bool, true, false}
use mathlib.Core.List.{List}
use mathlib.Core.Logic.{◌↔◌}
use Prim.Native.Nat.{ℕ, ◌^◌, ◌<◌}
use native.Mathlib.Omega.{arith}
use lib.Dec.{T}
use lib.ListN.{length}
use lib.Pow.{are_bytes}
use Rattle.bits.specs.declared.halves.Halves.{Halves}
use Rattle.bits.specs.Outcomes.{Outcome, gives, refuses, passes, ◌then◌, kept_or, first}
use Rattle.bits.proofs.FirstLaws.{both, neither, first_of, first_to, first_stop}
use Rattle.bits.proofs.OutcomeLaws.{never, then_passed, then_refused, told}
use Rattle.record.specs.declared.answer.Refusal.{Refusal}
use Rattle.reading.specs.Reader.{read}
use Rattle.container.specs.Formats.{known, format_of}
use Rattle.container.specs.Container.{eight}
use Rattle.packing.specs.Packing.{word_count, fitting, Fitting, halves_bytes, taken, container_bytes}
use Rattle.packing.proofs.PackLaws.{fitting_of, fitting_to, packed_fits}
use Rattle.walks.specs.Walks.{AllReached, Exact}
use Rattle.walks.specs.Sweeps.{Reports}
use Rattle.walks.specs.Served.Inference.{Proposal}
use Rattle.walks.proofs.Proposed.{passes_same, exact_same}
use Rattle.walks.proofs.RestLaws.{reached_noted}
use Rattle.safety.specs.declared.verdict.Finding.{Finding}
use Rattle.safety.specs.Program.{Program, Fact, In, annotation_at, program_in, machine, machine_of}
use Rattle.safety.specs.Verdict.{Judgement, judge_reading, judge_word, judge_program, verdict_of, plain}
use Rattle.safety.specs.Passed.{ReadBefore, Unreadable, PassedOn}
use Rattle.safety.proofs.PassedLaws.{words_passed_on}
use Rattle.safety.proofs.ProgramLaws.{passes_of, passes_to, Small, in_below, annotation_small}
use Rattle.safety.proofs.Demand3.{accepted, word_of}
use Rattle.sweeps.specs.Sweeps.{note, sweeps, proposal}
use Rattle.sweeps.proofs.ByteLaws.{notes_length, are_bytes_lem, note_back}
use Rattle.sweeps.proofs.TrackLaws.{note_small, note_taken}
use Rattle.sweeps.proofs.SweepLaws as sweep_laws
use Rattle.infer.specs.Inference.{unannotated, proposed, none_acceptable, pass_on, infer_outcome, infer_buffer}
use Rattle.infer.specs.Asked.{Acceptable, AsAsked, Inferred, Asked, LowAlone}
use Rattle.infer.proofs.EntryLaws.{taken_small, taken_again}
use Rattle.infer.proofs.PackedLaws.{packed_program, packed_verdict}
use Rattle.infer.proofs.NumberedLaws.{all_refusals, given}

-- words that read
module _ (words : List ℕ) where
  pub reads_of : (n : ℕ) → first (judge_word words) n ≡ passes → ReadBefore words n
  reads_of n e i l = word_of words i (first_of (judge_word words) n e i l)

  pub reads_to : (n : ℕ) → ReadBefore words n → first (judge_word words) n ≡ passes
  reads_to n h = first_to (judge_word words) n (λ i l. ap (judge_reading i) (h i l).1)

module _ (v : ℕ) (words : List ℕ) (entry : Halves) (low : entry.low < 2 ^ 64) (high : entry.high < 2 ^ 64) where
  abbrev n : ℕ
  n = word_count (length words)

  abbrev with_notes : List ℕ → Program
  with_notes annotations = program_in v words annotations n (taken v entry)

  abbrev Q : Program
  Q = unannotated v words entry

  abbrev offer : List ℕ
  offer = proposed v words entry

  small : Small (taken v entry)
  small = taken_small v entry low high

  -- what is proposed has the right length and is bytes
  pub offer_fits : {b : ℕ} → Fitting v (length words) b → Fitting v (length words) (length offer)
  unfolding proposal
  offer_fits f = record { some = f.some; few = f.few; whole = f.whole; noted = notes_length v (note Q (sweeps Q)) n }

  offer_bytes : T (are_bytes offer)
  unfolding proposal
  offer_bytes = are_bytes_lem v (note Q (sweeps Q)) n

  module _ (is_known : known v ≡ true) where
    -- acceptable annotations, in parts
    pub accept_to : (annotations : List ℕ) → Fitting v (length words) (length annotations) → ReadBefore words n → judge_program (with_notes annotations) ≡ passes
        → Acceptable v words entry annotations
    accept_to annotations f r e = packed_verdict v entry words annotations is_known f low high ∙ neither (reads_to words n r) e

    pub accept_of : (annotations : List ℕ) (b : ℕ) → Fitting v (length words) b → Acceptable v words entry annotations
        → Fitting v (length words) (length annotations) × ReadBefore words n × (judge_program (with_notes annotations) ≡ passes)
    accept_of annotations b f a =
        let o = (accepted (container_bytes v entry words annotations) a).0.opens in
        let g : Fitting v (length words) (length annotations) = record {
          some = f.some;
          few = f.few;
          whole = f.whole;
          noted = packed_fits v entry words annotations is_known f.whole f.few o;
        } in
        let p =
        both {a = first (judge_word words) n} {b = judge_program (with_notes annotations)}
        (sym (packed_verdict v entry words annotations is_known g low high) ∙ a) in
        (g, reads_of words n p.0, p.1)

    -- the proposal's bytes are the notes of the last sweep
    same : (j : ℕ) → j < n → (g : Fact) → (In (note Q (sweeps Q) j) g ↔ In (annotation_at v offer j) g)
    unfolding proposal
    same j l g =
        let e =
        note_back v (note Q (sweeps Q)) n j l (note_small Q small (sweeps Q) j)
        ∙ note_taken Q (taken_again v entry) is_known (sweeps Q) j in
        (λ h. rw e h, λ h. rw e at h)

    module _ (some : 0 < n) where
      found : Proposal (machine Q) (sweeps Q) (λ j. In (note Q (sweeps Q) j))
      found = sweep_laws.proposed Q small some

      -- where any annotations pass, these do
      offer_passes : (annotations : List ℕ) → judge_program (with_notes annotations) ≡ passes → judge_program (with_notes offer) ≡ passes
      unfolding machine
      offer_passes annotations e =
          passes_to (with_notes offer)
          (passes_same (machine Q) some (λ j. In (note Q (sweeps Q) j)) (λ j. In (annotation_at v offer j)) same
          (found.accepted (λ j. In (annotation_at v annotations j)) (passes_of (with_notes annotations) e)))

      -- and they contain those
      offer_contains : (annotations : List ℕ) → T (are_bytes annotations) → judge_program (with_notes annotations) ≡ passes
          → (i : ℕ) → i < n → (g : Fact) → In (annotation_at v annotations i) g → In (annotation_at v offer i) g
      unfolding machine
      offer_contains annotations t e i l g h =
          (same i l g).0 (found.contains (λ j. In (annotation_at v annotations j)) (passes_of (with_notes annotations) e) i l g
          (in_below (annotation_at v annotations i) (annotation_small v annotations t i) g h) h)

      offer_exact : AllReached (machine (with_notes offer)) → Exact (machine (with_notes offer))
      unfolding machine
      offer_exact reached =
          exact_same (machine Q) some (λ j. In (note Q (sweeps Q) j)) (λ j. In (annotation_at v offer j)) same
          (found.exact (reached_noted (machine Q) (λ j. In (annotation_at v offer j)) (machine Q).claims reached))

  module _ (buffer : List ℕ) where
    abbrev answer : Outcome Finding ℕ
    answer = infer_outcome v words entry buffer

    -- the order of the tests
    pub answer_unknown : known v ≡ false → answer ≡ refuses (plain 11 0 0)
    unfolding infer_outcome ◌then◌
    answer_unknown e = rw e

    module _ (is_known : known v ≡ true) where
      pub answer_unfit : (¬ Fitting v (length words) (length buffer)) → answer ≡ refuses (plain 12 0 0)
      unfolding infer_outcome ◌then◌
      answer_unfit h = go (fitting v (length words) (length buffer)) refl
        where
          go : (t : Bool) → fitting v (length words) (length buffer) ≡ t → answer ≡ refuses (plain 12 0 0)
          go true e = absurd (h (fitting_of v (length words) (length buffer) e))
          go false e = rw (is_known, e)

      module _ (fits : Fitting v (length words) (length buffer)) where
        pub answer_fit : answer ≡ (first (judge_word words) n then pass_on (verdict_of (container_bytes v entry words offer)) then gives (sweeps Q))
        unfolding infer_outcome ◌then◌
        answer_fit = rw (is_known, fitting_to v (length words) (length buffer) fits)

        answer_unread : (i : ℕ) → i < n → ReadBefore words i → (f : Refusal) → read (eight words i) ≡ refuses f
            → answer ≡ refuses (plain f.number f.place i)
        answer_unread i l h f e =
            answer_fit ∙ then_refused _ (first_stop (judge_word words) i n l (reads_to words i h) (ap (judge_reading i) e))

        module _ (reads : ReadBefore words n) where
          pub answer_read : answer ≡ (pass_on (verdict_of (container_bytes v entry words offer)) then gives (sweeps Q))
          answer_read = answer_fit ∙ then_passed _ (reads_to words n reads)

          answer_none : (f : Finding) → answer ≡ refuses f → f ≡ none_acceptable
          answer_none f e = go (verdict_of (container_bytes v entry words offer)) (sym answer_read ∙ e)
            where
              go : (j : Judgement) → (pass_on j then gives (sweeps Q)) ≡ refuses f → f ≡ none_acceptable
              go (gives tt) q = never (sym q ∙ then_passed _ refl)
              go (refuses g) q = told (sym q ∙ then_refused _ refl)

          none_of : answer ≡ refuses none_acceptable → (others : List ℕ) → T (are_bytes others) → ¬ Acceptable v words entry others
          none_of e others t a =
              let p = accept_of is_known others (length buffer) fits a in
              let q = accept_to is_known offer (offer_fits fits) reads (offer_passes is_known fits.some others p.2) in
              never (sym e ∙ answer_read ∙ then_passed _ (ap pass_on q))

          none_to : ((others : List ℕ) → T (are_bytes others) → ¬ Acceptable v words entry others) → answer ≡ refuses none_acceptable
          none_to h = answer_read ∙ go (verdict_of (container_bytes v entry words offer)) refl
            where
              go : (j : Judgement) → verdict_of (container_bytes v entry words offer) ≡ j → (pass_on j then gives (sweeps Q)) ≡ refuses none_acceptable
              go (gives tt) e = absurd (h offer offer_bytes e)
              go (refuses f) e = then_refused _ refl

    -- where something is proposed
    module _ (k : ℕ) (e : answer ≡ gives k) where
      counts : Reports (machine Q) k
      counts = subst (λ (x : ℕ). Reports (machine Q) x) (sym (given v words entry buffer k e).3) (sweep_laws.reports Q small)

      left : infer_buffer v words entry buffer ≡ offer
      unfolding infer_buffer
      left = ap (λ (o : Outcome Finding ℕ). kept_or o offer buffer) e

      contains : (others : List ℕ) → T (are_bytes others) → Acceptable v words entry others
          → (i : ℕ) → i < n → (g : Fact) → In (annotation_at v others i) g → In (annotation_at v (infer_buffer v words entry buffer) i) g
      contains others t a i l g h =
          let d = given v words entry buffer k e in
          rw left (offer_contains d.0 d.1.some others t (accept_of d.0 others (length buffer) d.1 a).2 i l g h)

      is_exact : AllReached (machine_of (container_bytes v entry words (infer_buffer v words entry buffer)))
          → Exact (machine_of (container_bytes v entry words (infer_buffer v words entry buffer)))
      is_exact reached =
          let d = given v words entry buffer k e in
          let m : machine_of (container_bytes v entry words (infer_buffer v words entry buffer)) ≡ machine (with_notes offer) =
          ap (λ (x : List ℕ). machine_of (container_bytes v entry words x)) left
          ∙ ap machine (packed_program v entry words offer d.0 (offer_fits d.1) low high) in
          subst Exact (sym m) (offer_exact d.0 d.1.some (subst AllReached m reached))

    kept : (f : Finding) → answer ≡ refuses f → infer_buffer v words entry buffer ≡ buffer
    unfolding infer_buffer
    kept f e = ap (λ (o : Outcome Finding ℕ). kept_or o offer buffer) e

    passed_on : (f : Finding) → answer ≡ refuses f → Unreadable f → PassedOn words n f
    passed_on =
        all_refusals v words entry buffer (λ (f : Finding). Unreadable f → PassedOn words n f) (λ u. absurd (omega (arith, u.1))) (λ u. absurd (omega (arith, u.1)))
        (λ u. absurd (omega (arith, u.1))) (λ fits f e u. words_passed_on words n e)

    pub as_asked : AsAsked v words entry buffer answer (infer_buffer v words entry buffer)
    as_asked = record {
      unknown = answer_unknown;
      unfit = answer_unfit;
      unreadable = answer_unread;
      passed = passed_on;
      refused = answer_none;
      none = λ i f r. (none_of i f r, none_to i f r);
      counted = counts;
      accepted = λ k e. rw (left k e) (given v words entry buffer k e).2;
      largest = contains;
      exact = is_exact;
      kept = kept;
    }

-- an answer and a buffer that are those of the sweeps are as asked
pub meets : (v : ℕ) (words : List ℕ) (entry : Halves) (buffer : List ℕ) → entry.low < 2 ^ 64 → entry.high < 2 ^ 64 → {r : Outcome Finding ℕ} {after : List ℕ}
    → r ≡ infer_outcome v words entry buffer → after ≡ infer_buffer v words entry buffer → Inferred v words entry buffer r after
meets v words entry buffer low high p q = record { answers = p; leaves = q; asked = rw (p, q) (as_asked v words entry low high buffer) }

-- so the sweeps are a maker as asked
pub inferred : Asked (record { answer = infer_outcome; after = infer_buffer })
inferred v words entry buffer tw tb low high = meets v words entry buffer low high refl refl

-- that in version 1 looks at the low halves alone
pub low_alone : LowAlone (record { answer = infer_outcome; after = infer_buffer })
unfolding infer_outcome infer_buffer container_bytes halves_bytes taken format_of
low_alone words low high other buffer = (refl, refl)
