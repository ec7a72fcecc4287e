-- What is read of an input that is longer is enough: what is sent of it is what would be sent of the whole. Assumes nothing.
use mathlib.Core.Path.{◌≡◌, refl, sym, ap, ◌∙◌}
use mathlib.Core.Bool.{Bool, true, false, ◌&&◌}
use mathlib.Core.List.{List, [], ◌∷◌}
use Prim.Native.Nat.{ℕ, zero, suc, ◌+◌, ◌-◌, ◌<◌, ◌≤◌}
use native.Mathlib.Omega.{arith}
use borrow.Author.Tests.{le-leb, leb-true, ltb-true, ltb-false}
use lib.Dec.{leb, ltb}
use lib.ListN.{length, take, drop, length-drop}
use lib.Seq.{take_all, take-take, take-nil, length-take-le}
use Rattle.bits.specs.Bytes.{little}
use Rattle.bits.specs.Fields.{choose}
use Rattle.bits.specs.Outcomes.{Outcome, gives, refuses, ◌then◌}
use Rattle.container.specs.Container.{version_of, count_of}
use Rattle.container.proofs.FormatLaws.{no_longer}
use Rattle.container.proofs.OpeningLaws.{sized}
use Rattle.safety.specs.declared.verdict.Finding.{Finding}
use Rattle.safety.specs.Verdict.{Judgement, verdict_of}
use Rattle.safety.proofs.Demand3.{accepted}
use Rattle.run.specs.declared.Stop.{Stop}
use Rattle.replay.proofs.AnswerLaws.{by_check}
use Rattle.runbytes.specs.declared.Front.{Front}
use Rattle.runbytes.specs.RunBytes.{number_at, front_in, container_start, container_in, asked_in, split_outcome}
use Rattle.runbytes.specs.Served.Whole.{Whole}
use Rattle.runbytes.proofs.SplitLaws.{both, whole}
use Rattle.listing.specs.Cut.{read_length}
use Rattle.listing.proofs.CutLaws.{verdict_from_the_front}
use Rattle.replaytext.specs.ReplayText.{answer_line}
use Rattle.replayer.specs.Replaying.{most_read, answer_in, answer_text, steps_of, row_count, row_text}

-- what is sent of the front is what is sent of the whole
pub record Enough (s front : List ℕ) : Type 0 where
  pub split : split_outcome front ≡ split_outcome s
  pub answer : {f : Front} → gives f ≡ split_outcome s → answer_text front ≡ answer_text s
  pub rows : {f : Front} → gives f ≡ split_outcome s → row_count front ≡ row_count s
  pub row : {f : Front} → gives f ≡ split_outcome s → (j : ℕ) → 0 < j → j ≤ row_count s → row_text front j ≡ row_text s j

all_there : (s : List ℕ) {front : List ℕ} → front ≡ s → Enough s front
all_there s e = record { split = ap split_outcome e; answer = λ _. ap answer_text e; rows = λ _. ap row_count e; row = λ _ j _ _. ap (λ (t : List ℕ). row_text t j) e }

drop_take : (k n : ℕ) (s : List ℕ) → drop k (take n s) ≡ take (n - k) (drop k s)
drop_take zero n s = let z : n - 0 ≡ n = omega arith in rw z
drop_take (suc k) zero s = let z : 0 - suc k ≡ 0 = omega arith in rw z
drop_take (suc k) (suc n) [] = sym (take-nil (suc n - suc k))
drop_take (suc k) (suc n) (x ∷ s) = let z : suc n - suc k ≡ n - k = omega arith in rw z (drop_take k n s)

-- what is too long for a container is refused
too_long : (c : List ℕ) → read_length ≤ length c → (f : Finding) × (refuses f ≡ verdict_of c)
too_long c big = go (verdict_of c) refl
  where
    go : (o : Judgement) → verdict_of c ≡ o → (f : Finding) × (refuses f ≡ verdict_of c)
    go (gives _) e = absurd (let z = sized c (accepted c e).0.opens in omega (arith, z.long, no_longer (version_of c) (count_of c) z.fits))
    go (refuses f) e = (f, sym e)

-- of an input of m bytes or more m are read, which are at least as many as the replayer reads
module _ (m : ℕ) (room : most_read ≤ m) (s : List ℕ) (big : m ≤ length s) where
  abbrev F : List ℕ
  F = take m s

  long : length F ≡ m
  long = length-take-le m s big

  same_number : (i : ℕ) → i + 4 ≤ m → number_at F i ≡ number_at s i
  same_number i h = ap (λ (t : List ℕ). little (take 4 t)) (drop_take i m s) ∙ ap little (take-take 4 (m - i) (drop i s) (omega arith))

  same_front : front_in F ≡ front_in s
  same_front = rw (same_number 0 (omega arith), same_number 4 (omega arith), same_number 8 (omega arith), same_number 12 (omega arith))

  few : List ℕ → Bool
  few t = leb (front_in t).uniforms 256 && leb (front_in t).recorded 262144

  start_small : few s ≡ true → container_start (front_in s) + read_length ≤ m
  unfolding few
  start_small e =
      let b = both (leb (front_in s).uniforms 256) (leb (front_in s).recorded 262144) e in
      omega (arith, leb-true (front_in s).uniforms 256 b.0, leb-true (front_in s).recorded 262144 b.1)

  same_split : split_outcome F ≡ split_outcome s
  unfolding few ◌then◌
  same_split = go (few s) refl
    where
      go : (t : Bool) → few s ≡ t → split_outcome F ≡ split_outcome s
      go false e = rw (le-leb 272 (length F) (omega (arith, long)), le-leb 272 (length s) (omega arith), same_number 0 (omega arith), same_number 8 (omega arith), same_number 12 (omega arith), e)
      go true e =
          let l = start_small e in
          rw (same_number 0 (omega arith), same_number 4 (omega arith), same_number 8 (omega arith), same_number 12 (omega arith), long, le-leb 272 m (omega arith), le-leb 272 (length s) (omega arith), le-leb (container_start (front_in s)) (length s) (omega arith), le-leb (container_start (front_in s)) m (omega arith))

  module _ {f : Front} (w : Whole s f) where
    small : container_start (front_in s) + read_length ≤ m
    small = omega (arith, ap (λ (g : Front). g.uniforms) w.front, ap (λ (g : Front). g.recorded) w.front, w.few_uniforms, w.few_recorded)

    abbrev c : List ℕ
    c = container_in s

    abbrev rest : ℕ
    rest = m - container_start (front_in s)

    cut : container_in F ≡ take rest c
    cut = ap (λ (g : Front). drop (container_start g) F) same_front ∙ drop_take (container_start (front_in s)) m s

    refused : (g : Finding) × (refuses g ≡ verdict_of c)
    refused = too_long c (omega (arith, small, length-drop (container_start (front_in s)) s))

    refused_too : refuses refused.0 ≡ verdict_of (container_in F)
    refused_too =
        refused.1
        ∙ sym (verdict_from_the_front c)
        ∙ ap verdict_of (sym (take-take read_length rest c (omega (arith, small))))
        ∙ verdict_from_the_front (take rest c)
        ∙ ap verdict_of (sym cut)

    answers : answer_in s ≡ refuses refused.0
    answers = sym (by_check (asked_in s) refused.1).answer

    answers_too : answer_in F ≡ refuses refused.0
    answers_too = sym (by_check (asked_in F) refused_too).answer

    same_answer : answer_text F ≡ answer_text s
    unfolding answer_text answer_line
    same_answer = rw (answers, answers_too)

    none : (t : Bool) {o : Outcome Finding Stop} → o ≡ refuses refused.0 → choose t (steps_of o) 0 ≡ 0
    none true e = ap steps_of e
    none false e = refl

    no_rows : row_count s ≡ 0
    no_rows = none (front_in s).rows answers

    no_rows_too : row_count F ≡ 0
    no_rows_too = none (front_in F).rows answers_too

  long_enough : Enough s F
  long_enough = record {
    split = same_split;
    answer = λ e. same_answer (whole s e);
    rows = λ e. no_rows_too (whole s e) ∙ sym (no_rows (whole s e));
    row = λ e j z h. absurd (omega (arith, no_rows (whole s e)));
  }

pub enough : (s : List ℕ) → Enough s (take most_read s)
enough s = go (ltb (length s) most_read) refl
  where
    go : (t : Bool) → ltb (length s) most_read ≡ t → Enough s (take most_read s)
    go true e = all_there s (take_all most_read s (let h = ltb-true (length s) most_read e in omega arith))
    go false e = long_enough most_read (omega arith) s (ltb-false (length s) most_read e)
