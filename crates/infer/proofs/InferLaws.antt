-- The steps of the code together are the answer. Assumes nothing.
use mathlib.Core.Path.{◌≡◌, refl, sym, ap, ap₂, ◌∙◌, subst}
use mathlib.Core.Bool.{true, false}
use mathlib.Core.List.{List}
use mathlib.Core.Logic.{⊎_elim}
use Prim.Native.Nat.{ℕ, ◌*◌, ◌^◌, ◌<◌, ◌≤◌}
use native.Mathlib.Omega.{arith}
use lib.ListN.{length, take, replicate, length-take, length-replicate}
use Rattle.bits.specs.declared.halves.Halves.{Halves}
use Rattle.bits.specs.Outcomes.{Outcome, gives, refuses, ◌then◌, kept_or, first}
use Rattle.bits.proofs.OutcomeLaws.{never, then_gives, then_refused, then_refuses}
use Rattle.container.specs.Formats.{known, annotation_length}
use Rattle.container.proofs.FormatLaws.{bounded, at_most}
use Rattle.packing.specs.Packing.{word_count, fitting, Fitting, taken}
use Rattle.packing.proofs.PackLaws.{unfitting, few_words}
use Rattle.safety.specs.declared.verdict.Finding.{Finding}
use Rattle.safety.specs.Program.{Worded, Annotated, program_in}
use Rattle.safety.specs.Verdict.{judge_word, judge_program, plain}
use Rattle.sweeps.specs.Sweeps.{sweeps}
use Rattle.infer.specs.Inference.{unannotated, proposed, pass_on, infer_outcome, infer_buffer}
use Rattle.infer.specs.Asked.{Inferred}
use Rattle.infer.specs.Served.Handed.{Ready, Swept, Handed}
use Rattle.infer.proofs.EntryLaws.{taken_again}
use Rattle.infer.proofs.PackedLaws.{packed_verdict}
use Rattle.infer.proofs.AskedLaws.{reads_of, offer_fits, answer_unknown, answer_unfit, answer_fit, answer_read, meets}

-- annotations are no longer than the code's buffer for them
pub short : (v w : ℕ) {a : ℕ} → Fitting v w a → a ≤ 32768
short v w {a} f =
    omega (arith, f.noted, at_most {a = annotation_length v} {b = word_count w} 16 2048 (bounded v).annotation_most (few_words v w a f))

-- the first bytes of that buffer
pub room : (v n : ℕ) → n ≤ 32768 → n ≡ length (take n (replicate 32768 v))
room v n h = sym (length-take n (replicate 32768 v) ∙ omega (arith, length-replicate 32768 v))

-- what is asked of words and annotations whose lengths are right
module _ (v : ℕ) (words : List ℕ) {n a : ℕ} (count : n ≡ word_count (length words)) (fits : Fitting v (length words) a) where
  pub worded : Worded words n
  worded = record { few = rw count (few_words v (length words) a fits); long = fits.whole ∙ ap (λ (k : ℕ). 8 * k) (sym count) }

  pub some : 0 < n
  some = rw count fits.some

  pub noted : a ≡ annotation_length v * n
  noted = fits.noted ∙ ap (λ (k : ℕ). annotation_length v * k) (sym count)

  pub annotated : {l : List ℕ} → length l ≡ a → Annotated v l n
  annotated e = record { few = worded.few; long = e ∙ noted }

  pub ready : (entry : Halves) → known v ≡ true → {held : Halves} → held ≡ taken v entry → Ready v words n held
  ready entry is_known q = rw q (record { is_known = is_known; entered = taken_again v entry; worded = worded; some = some })

module _ (v : ℕ) (words : List ℕ) (entry : Halves) (buffer : List ℕ) (low : entry.low < 2 ^ 64) (high : entry.high < 2 ^ 64) where
  -- a refusal leaves the buffer
  refused : {f : Finding} {r : Outcome Finding ℕ} → r ≡ refuses f → infer_outcome v words entry buffer ≡ refuses f → Inferred v words entry buffer r buffer
  unfolding infer_buffer
  refused {f} p e =
      meets v words entry buffer low high (p ∙ sym e) (sym (ap (λ (o : Outcome Finding ℕ). kept_or o (proposed v words entry) buffer) e))

  pub unknown : known v ≡ false → {r : Outcome Finding ℕ} → r ≡ refuses (plain 11 0 0) → Inferred v words entry buffer r buffer
  unknown e p = refused p (answer_unknown v words entry low high buffer e)

  module _ (is_known : known v ≡ true) where
    pub unfit : fitting v (length words) (length buffer) ≡ false → {r : Outcome Finding ℕ} → r ≡ refuses (plain 12 0 0)
        → Inferred v words entry buffer r buffer
    unfit e p = refused p (answer_unfit v words entry low high buffer is_known (unfitting v (length words) (length buffer) e))

    module _ (n : ℕ) (count : n ≡ word_count (length words)) (fits : Fitting v (length words) (length buffer)) where
      -- the entry set is handed on as the version takes it
      module _ {held : Halves} (is : held ≡ taken v entry) where
        -- a word does not read
        pub unread : {f : Finding} {out : List ℕ} → Swept v words n held (refuses f) out → Inferred v words entry buffer (refuses f) buffer
        unread {f} {out} swept =
            let s = subst (λ (m : ℕ). Swept v words m held (refuses f) out) count swept in
            let q = ⊎_elim (λ p. p) (λ p. never (sym p)) (then_refuses (first (judge_word words) (word_count (length words))) _ f (sym s.answers)) in
            refused refl (answer_fit v words entry low high buffer is_known fits ∙ then_refused _ q)

        -- the proposal went through the check
        pub checked : {k : ℕ} {offer : List ℕ} → Swept v words n held (gives k) offer → {r : Outcome Finding ℕ} {after : List ℕ}
            → Handed v words n held offer k buffer r after → Inferred v words entry buffer r after
        unfolding infer_buffer
        checked {k} {offer} swept {r} {after} handed =
            let m = word_count (length words) in
            let s = subst (λ (h : Halves). Swept v words m h (gives k) offer) is (subst (λ (i : ℕ). Swept v words i held (gives k) offer) count swept) in
            let h = subst (λ (h : Halves). Handed v words m h offer k buffer r after) is (subst (λ (i : ℕ). Handed v words i held offer k buffer r after) count handed) in
            let g = then_gives (first (judge_word words) m) _ k (sym s.answers) in
            let o : offer ≡ proposed v words entry = s.leaves k refl in
            let j : k ≡ sweeps (unannotated v words entry) = given (sym g.1) in
            let c = packed_verdict v entry words (proposed v words entry) is_known (offer_fits v words entry low high fits) low high in
            let e : r ≡ infer_outcome v words entry buffer =
            h.answers
            ∙ ap₂ (λ (l : List ℕ) (i : ℕ). pass_on (first (judge_word words) m then judge_program (program_in v words l m (taken v entry))) then gives i) o j
            ∙ ap (λ w. pass_on w then gives (sweeps (unannotated v words entry))) (sym c)
            ∙ sym (answer_read v words entry low high buffer is_known fits (reads_of words m g.0)) in
            meets v words entry buffer low high e (h.leaves ∙ ap₂ (λ (x : Outcome Finding ℕ) (l : List ℕ). kept_or x l buffer) e o)
          where
            given : {a b : ℕ} → ◌≡◌ {A = Outcome Finding ℕ} (gives a) (gives b) → a ≡ b
            given e = cc
