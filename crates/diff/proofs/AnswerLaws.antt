-- The answers of a comparison by whether both containers open and read. Assumes nothing.
use Rattle.std.specs.Prelude.{Option, Some}
use mathlib.Core.Path.{◌≡◌, refl, sym, ap, ap₂, ◌∙◌, subst}
use mathlib.Core.List.{List, [], ◌∷◌, ◌++◌}
use Prim.Native.Nat.{ℕ, suc, ◌-◌, ◌<◌, ◌≤◌}
use native.Mathlib.Omega.{arith}
use lib.ListN.{length}
use Rattle.bits.specs.Lists.{kth}
use Rattle.bits.specs.Outcomes.{Outcome, gives, refuses, passes, ◌then◌, kept_or}
use Rattle.bits.proofs.OutcomeLaws.{never, then_passed, then_refused, then_gives}
use Rattle.container.specs.Formats.{most_instructions}
use Rattle.view.specs.Words.{open_count}
use Rattle.view.proofs.WordLaws.{opened_count}
use Rattle.safety.specs.Verdict.{Judgement, all_read}
use Rattle.differences.specs.declared.answer.Side.TheVariants.{First, Second}
use Rattle.differences.specs.declared.answer.Unread.{Unread}
use Rattle.differences.specs.declared.line.Line.{Line}
use Rattle.differences.specs.Differences.{version_lines, content_lines, differences}
use Rattle.differences.specs.Numbers.{front_filled, most_lines}
use Rattle.differences.specs.Answers.{of_side, both_read, line_outcome, list_outcome, list_buffer}
use Rattle.diffparts.specs.Served.Parts.{Both, Counted}
use Rattle.safety.proofs.ReadLaws.{formed}
use Rattle.differences.proofs.ListLaws.{kth_member}
use Rattle.diff.proofs.FewLaws.{few_lines, small_index}

-- two containers that are read, with their counts
pub counted_by : {a b : List ℕ} {n m : ℕ} → Both a b → n ≡ open_count a → m ≡ open_count b → Counted a n b m
counted_by {a} {b} k en em =
    record { both = k; first_count = en ∙ opened_count a k.first.opens; second_count = em ∙ opened_count b k.second.opens }

-- the list is the line of the versions, if there is one, and after it what the containers hold
pub after_version : (a b : List ℕ) {ls : List Line} → ls ≡ version_lines a b → ls ++ content_lines a b ≡ differences a b
unfolding differences
after_version a b e = ap (λ (l : List Line). l ++ content_lines a b) e

module _ (a b : List ℕ) {l : Line} (e : l ∷ [] ≡ version_lines a b) (k : ℕ) where
  pub version_first : k ≡ 0 → kth (differences a b) k ≡ Some l
  unfolding kth
  version_first h = rw (← after_version a b e, h)

  pub version_before : (k ≡ 0 → ⊥) → kth (content_lines a b) (k - 1) ≡ kth (differences a b) k
  unfolding kth
  version_before h =
      let n : suc (k - 1) ≡ k = omega arith in
      ap₂ kth (after_version a b e) n

module _ (a b : List ℕ) where
  -- both are read
  module _ (e : passes ≡ both_read a b) where
    parts : (x y : Judgement) → passes ≡ (of_side First x then of_side Second y) → (x ≡ passes) × (y ≡ passes)
    unfolding ◌then◌
    parts (gives _) (gives _) q = (refl, refl)
    parts (gives _) (refuses f) q = never (sym q)
    parts (refuses f) y q = never (sym q)

    pub are_both : Both a b
    unfolding both_read
    are_both =
        let p = parts (all_read a) (all_read b) e in
        record { first = formed a p.0; second = formed b p.1 }

    pub line_told : {o : Option Line} (k : ℕ) → o ≡ kth (differences a b) k → gives o ≡ line_outcome a b k
    unfolding line_outcome
    line_told k q = ap gives q ∙ sym (then_passed (gives (kth (differences a b) k)) (sym e))

    told : gives (length (differences a b)) ≡ list_outcome a b
    unfolding list_outcome
    told = sym (then_passed (gives (length (differences a b))) (sym e))

    pub list_told : (n : ℕ) (out after : List ℕ) → (n ≡ length (differences a b)) × (after ≡ front_filled (differences a b) out)
        → (gives n ≡ list_outcome a b) × (after ≡ list_buffer a b out)
    unfolding list_buffer
    list_told n out after (en, eb) = (ap gives en ∙ told, eb ∙ ap (λ (o : Outcome Unread ℕ). kept_or o (front_filled (differences a b) out) out) told)

  module _ {u : Unread} (e : refuses u ≡ both_read a b) where
    pub line_untold : (k : ℕ) → refuses u ≡ line_outcome a b k
    unfolding line_outcome
    line_untold k = sym (then_refused (gives (kth (differences a b) k)) (sym e))

    untold : refuses u ≡ list_outcome a b
    unfolding list_outcome
    untold = sym (then_refused (gives (length (differences a b))) (sym e))

    pub list_untold : (out : List ℕ) → (refuses u ≡ list_outcome a b) × (out ≡ list_buffer a b out)
    unfolding list_buffer
    list_untold out = (untold, ap (λ (o : Outcome Unread ℕ). kept_or o (front_filled (differences a b) out) out) untold)

  -- a line that is told has the index of an instruction
  pub line_index : (k : ℕ) {l : Line} → line_outcome a b k ≡ gives (Some l) → l.index < most_instructions
  unfolding line_outcome
  line_index k {l} e =
      let t = then_gives (both_read a b) (gives (kth (differences a b) k)) (Some l) e in
      small_index a b (are_both (sym t.0)) (kth_member (differences a b) k (given t.1))
    where
      given : {x y : Option Line} → ◌≡◌ {A = Outcome Unread (Option Line)} (gives x) (gives y) → x ≡ y
      given q = cc q

  pub list_few : {n : ℕ} → list_outcome a b ≡ gives n → n ≤ most_lines
  unfolding list_outcome
  list_few {n} e =
      let t = then_gives (both_read a b) (gives (length (differences a b))) n e in
      subst (λ (x : ℕ). x ≤ most_lines) (given t.1) (few_lines a b (are_both (sym t.0)))
    where
      given : {x y : ℕ} → ◌≡◌ {A = Outcome Unread ℕ} (gives x) (gives y) → x ≡ y
      given q = cc q
