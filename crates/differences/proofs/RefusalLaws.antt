-- What a refusal of opening or reading tells: a number of theirs, an index of the container, no register and no half. Assumes nothing.
use mathlib.Core.Path.{◌≡◌, refl, sym, ap, ◌∙◌, subst}
use mathlib.Core.List.{List}
use mathlib.Core.Logic.{◌⊎◌, inl, inr, ⊎_elim}
use Prim.Native.Nat.{ℕ, ◌<◌}
use native.Mathlib.Omega.{arith}
use lib.ListN.{length}
use Rattle.bits.specs.Lists.{kth}
use Rattle.bits.specs.Outcomes.{Outcome, gives, refuses, ◌then◌, first}
use Rattle.bits.proofs.OutcomeLaws.{never, told, then_passed, then_refused, then_refuses, Refusals, Between}
use Rattle.bits.proofs.FirstLaws.{first_refused}
use Rattle.record.specs.declared.instruction.Instruction.{Instruction}
use Rattle.record.specs.declared.answer.Refusal.{Refusal}
use Rattle.reading.specs.Reader.{read}
use Rattle.container.specs.declared.header.Header.{Header}
use Rattle.container.specs.Formats.{most_instructions}
use Rattle.container.specs.Container.{count_of, words_of, eight}
use Rattle.container.specs.Opening.{Rejection, open_outcome}
use Rattle.container.proofs.OpeningLaws.{sized, length_words}
use Rattle.safety.specs.declared.verdict.Finding.{Finding}
use Rattle.safety.specs.declared.verdict.Reported.TheVariants.{Neither}
use Rattle.safety.specs.Verdict.{Judgement, no_register, judge_opening, judge_reading, judge_word, verdict_of, all_read}
use Rattle.safety.proofs.ReadLaws.{refused_first}
use Rattle.safety.proofs.NumberedLaws.{opened_numbers, whole_words_numbers}
use Rattle.differences.specs.declared.answer.Side.{Side}
use Rattle.differences.specs.declared.answer.Side.TheVariants.{First, Second}
use Rattle.differences.specs.declared.answer.Unread.{Unread}
use Rattle.differences.specs.Differences.{differences}
use Rattle.differences.specs.Answers.{of_side, side_of, both_read, line_outcome, list_outcome}

pub record Early (f : Finding) : Type 0 where
  pub number : Between 2 7 f.number ⊎ Between 10 13 f.number
  pub index : f.index < most_instructions
  pub register : f.register ≡ no_register
  pub half : f.half ≡ Neither

module _ (s : List ℕ) where
  opening : (o : Outcome Rejection Header) → open_outcome s ≡ o → Refusals Early (judge_opening o)
  opening (gives h) q f e = never (sym e)
  opening (refuses r) q f e =
      let n = opened_numbers s f (ap judge_opening q ∙ e) in
      let t = told e in
      record {
        number = inr n;
        index = omega (arith, ap (λ (x : Finding). x.index) t);
        register = sym (ap (λ (x : Finding). x.register) t);
        half = sym (ap (λ (x : Finding). x.half) t);
      }

  reading : (i : ℕ) (o : Outcome Refusal Instruction) {f : Finding} → judge_reading i o ≡ refuses f
      → (f.index ≡ i) × (f.register ≡ no_register) × (f.half ≡ Neither)
  reading i (gives x) e = never (sym e)
  reading i (refuses g) e =
      let t = told e in
      (sym (ap (λ (x : Finding). x.index) t), sym (ap (λ (x : Finding). x.register) t), sym (ap (λ (x : Finding). x.half) t))

  words : {h : Header} → open_outcome s ≡ gives h → Refusals Early (first (judge_word (words_of s)) (count_of s))
  words q f e =
      let w = first_refused (judge_word (words_of s)) (count_of s) e in
      let n = whole_words_numbers (words_of s) (count_of s) (length_words s q) f e in
      let r = reading w.0 (read (eight (words_of s) w.0)) w.2 in
      record { number = inl n; index = omega (arith, r.0, w.1, (sized s q).few); register = r.1; half = r.2 }

  pub early : Refusals Early (all_read s)
  unfolding all_read
  early f e = go (open_outcome s) refl
    where
      go : (o : Outcome Rejection Header) → open_outcome s ≡ o → Early f
      go (gives h) q = words q f (sym (then_passed _ (ap judge_opening q)) ∙ e)
      go (refuses r) q = opening (refuses r) q f (sym (then_refused _ (ap judge_opening q)) ∙ e)

-- of the two containers of a comparison
side : (d : Side) (j : Judgement) → Refusals Early j → {u : Unread} → of_side d j ≡ refuses u → Early u.finding
side d (gives _) h e = never (sym e)
side d (refuses f) h e = subst (λ (x : Unread). Early x.finding) (told e) (h f refl)

-- the container of a side
pub as_checked : (a b : List ℕ) (u : Unread) → both_read a b ≡ refuses u → verdict_of (side_of a b u.side) ≡ refuses u.finding
unfolding both_read
as_checked a b u e =
    ⊎_elim (λ q. checked First (all_read a) refl q) (λ q. checked Second (all_read b) refl q) (then_refuses (of_side First (all_read a)) (of_side Second (all_read b)) u e)
  where
    checked : (d : Side) (j : Judgement) → all_read (side_of a b d) ≡ j → of_side d j ≡ refuses u → verdict_of (side_of a b u.side) ≡ refuses u.finding
    checked d (gives _) r q = never (sym q)
    checked d (refuses f) r q = subst (λ (x : Unread). verdict_of (side_of a b x.side) ≡ refuses x.finding) (told q) (refused_first (side_of a b d) r)

pub both_early : (a b : List ℕ) {u : Unread} → both_read a b ≡ refuses u → Early u.finding
unfolding both_read
both_early a b {u} e =
    ⊎_elim (side First (all_read a) (early a)) (side Second (all_read b) (early b)) (then_refuses (of_side First (all_read a)) (of_side Second (all_read b)) u e)

-- of its two calls
module _ (a b : List ℕ) {u : Unread} where
  refused : {A : Type 0} (x : A) → (both_read a b then gives x) ≡ refuses u → Early u.finding
  refused x e = ⊎_elim (both_early a b) (λ q. never (sym q)) (then_refuses (both_read a b) (gives x) u e)

  pub line_early : (k : ℕ) → line_outcome a b k ≡ refuses u → Early u.finding
  unfolding line_outcome
  line_early k e = refused (kth (differences a b) k) e

  pub list_early : list_outcome a b ≡ refuses u → Early u.finding
  unfolding list_outcome
  list_early e = refused (length (differences a b)) e
