-- The comparison is what the paper asks. Assumes nothing.
use Rattle.std.specs.Prelude.{Option, None, Some}
use mathlib.Core.Path.{◌≡◌, refl, sym, ap, ◌∙◌}
use mathlib.Core.List.{List}
use mathlib.Core.Logic.{◌↔◌, ◌≢◌, ⊎_elim}
use Prim.Native.Nat.{ℕ}
use borrow.Author.Tests.{ne_eqb}
use lib.Dec.{T}
use lib.Pow.{are_bytes}
use Rattle.bits.specs.Lists.{kth}
use Rattle.bits.specs.Outcomes.{Outcome, gives, refuses, passes}
use Rattle.bits.proofs.ListLaws.{kth_stays}
use Rattle.bits.proofs.OutcomeLaws.{never, then_passed, then_refused, then_refuses}
use Rattle.container.specs.Container.{version_of, count_of, words_of}
use Rattle.safety.specs.declared.verdict.Finding.{Finding}
use Rattle.safety.specs.Program.{WellFormed}
use Rattle.safety.specs.Verdict.{all_read}
use Rattle.safety.specs.Passed.{Unreadable, PassedOn}
use Rattle.differences.specs.declared.answer.Side.TheVariants.{First, Second}
use Rattle.differences.specs.declared.answer.Unread.{Unread}
use Rattle.differences.specs.declared.line.What.TheVariants.{Version}
use Rattle.differences.specs.declared.line.Line.{Line}
use Rattle.differences.specs.Differences.{line, differences}
use Rattle.differences.specs.Answers.{of_side, side_of, both_read, line_outcome}
use Rattle.differences.specs.Asked.{Before, Compares}
use Rattle.safety.proofs.ReadLaws.{all_of}
use Rattle.safety.proofs.PassedLaws.{of_words}
use Rattle.differences.proofs.ListLaws.{kth_member, member_kth, no_member, ordered_kth}
use Rattle.differences.proofs.DiffersLaws.{listed_differs, differs_listed}
use Rattle.differences.proofs.OrderLaws.{differences_ordered}
use Rattle.differences.proofs.EqualLaws.{no_self, same_bytes}
use Rattle.differences.proofs.RefusalLaws.{as_checked}

given : {x y : Option Line} → ◌≡◌ {A = Outcome Unread (Option Line)} (gives x) (gives y) → x ≡ y
given e = cc

module _ (a b : List ℕ) where
  -- a container that cannot be compared
  first_refused : (f : Finding) → all_read a ≡ refuses f → (k : ℕ) → line_outcome a b k ≡ refuses (record { side = First; finding = f })
  unfolding line_outcome both_read
  first_refused f e k = then_refused (gives (kth (differences a b) k)) (then_refused (of_side Second (all_read b)) (ap (of_side First) e))

  second_refused : all_read a ≡ passes → (f : Finding) → all_read b ≡ refuses f → (k : ℕ) → line_outcome a b k ≡ refuses (record { side = Second; finding = f })
  unfolding line_outcome both_read
  second_refused e f d k =
      then_refused (gives (kth (differences a b) k)) (then_passed (of_side Second (all_read b)) (ap (of_side First) e) ∙ ap (of_side Second) d)

  -- and passed on as the reader has it
  passed_on : (k : ℕ) (u : Unread) → line_outcome a b k ≡ refuses u → Unreadable u.finding
      → PassedOn (words_of (side_of a b u.side)) (count_of (side_of a b u.side)) u.finding
  unfolding line_outcome
  passed_on k u e = of_words (side_of a b u.side) u.finding (as_checked a b u (⊎_elim (λ q. q) (λ q. never (sym q)) (then_refuses (both_read a b) (gives (kth (differences a b) k)) u e)))

  -- the first line where the versions differ
  first_line : version_of a ≢ version_of b → kth (differences a b) 0 ≡ Some (line Version 0 (version_of a) (version_of b))
  unfolding kth differences
  first_line n = rw (ne_eqb (version_of a) (version_of b) n)

  -- where both can, the answer is the line of the list
  module _ (f : WellFormed a) (g : WellFormed b) where
    answered : (k : ℕ) → line_outcome a b k ≡ gives (kth (differences a b) k)
    unfolding line_outcome both_read
    answered k =
        then_passed (gives (kth (differences a b) k))
        (then_passed (of_side Second (all_read b)) (ap (of_side First) (all_of a f)) ∙ ap (of_side Second) (all_of b g))

    line_at : (k : ℕ) {o : Option Line} → line_outcome a b k ≡ gives o → kth (differences a b) k ≡ o
    line_at k e = given (sym (answered k) ∙ e)

    at_line : (k : ℕ) {o : Option Line} → kth (differences a b) k ≡ o → line_outcome a b k ≡ gives o
    at_line k e = answered k ∙ ap gives e

    nothing_listed : T (are_bytes a) → T (are_bytes b) → (line_outcome a b 0 ≡ gives None) ↔ (a ≡ b)
    nothing_listed t u = (
      λ e. same_bytes a b t u f g (λ l d. no_member (differences a b) (line_at 0 e) (differs_listed a b d)),
      λ e. at_line 0 (go (kth (differences a b) 0) refl e),
    )
      where
        go : (o : Option Line) → kth (differences a b) 0 ≡ o → a ≡ b → kth (differences a b) 0 ≡ None
        go None q e = q
        go (Some l) q e = absurd (no_self b (rw e at (listed_differs a b (kth_member (differences a b) 0 q))))

pub compares : Compares line_outcome
compares a b t u = record {
  first_unread = first_refused a b;
  second_unread = second_refused a b;
  passed = passed_on a b;
  told = λ f g k. (kth (differences a b) k, answered a b f g k);
  true_lines = λ f g k l e. listed_differs a b (kth_member (differences a b) k (line_at a b f g k e));
  all_lines = λ f g l d. let m = member_kth (differs_listed a b d) in (m.0, at_line a b f g m.0 m.1);
  versions_first = λ f g n. at_line a b f g 0 (first_line a b n);
  in_order = λ f g j k l m h d e. ordered_kth Before (differences a b) (differences_ordered a b) j k h (line_at a b f g j d) (line_at a b f g k e);
  no_gap = λ f g j k h e. at_line a b f g k (kth_stays (differences a b) j k (line_at a b f g j e) h);
  equal = λ f g. nothing_listed a b f g t u;
}
