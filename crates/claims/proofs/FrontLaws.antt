-- Two inputs of which one is longer than any container are compared by their fronts. Assumes nothing.
use mathlib.Core.Path.{◌≡◌, refl, sym, ap, ap₂, ◌∙◌}
use mathlib.Core.List.{List}
use Prim.Native.Nat.{ℕ}
use lib.ListN.{take}
use Rattle.bits.specs.Lists.{kth}
use Rattle.bits.specs.Outcomes.{gives, refuses, ◌then◌}
use Rattle.bits.proofs.OutcomeLaws.{then_refused}
use Rattle.safety.specs.Verdict.{Judgement, all_read}
use Rattle.safety.proofs.ReadLaws.{formed}
use Rattle.differences.specs.declared.answer.Side.TheVariants.{First, Second}
use Rattle.differences.specs.declared.answer.Unread.{Unread}
use Rattle.differences.specs.Differences.{differences}
use Rattle.differences.specs.Answers.{of_side, both_read, line_outcome}
use Rattle.listing.specs.Cut.{read_length}
use Rattle.listing.proofs.CutLaws.{read_from_the_front, all_of_it}

module _ (a b : List ℕ) (k : ℕ) where
  abbrev A : List ℕ
  A = take read_length a

  abbrev B : List ℕ
  B = take read_length b

  same_reads : both_read A B ≡ both_read a b
  unfolding both_read
  same_reads = ap₂ (λ (x y : Judgement). of_side First x then of_side Second y) (read_from_the_front a) (read_from_the_front b)

  pub compared_by_fronts : line_outcome A B k ≡ line_outcome a b k
  unfolding line_outcome both_read ◌then◌
  compared_by_fronts = go (all_read a) (all_read b) refl refl
    where
      refused : {u : Unread} → both_read A B ≡ refuses u → both_read a b ≡ refuses u
          → (both_read A B then gives (kth (differences A B) k)) ≡ (both_read a b then gives (kth (differences a b) k))
      refused d e = then_refused (gives (kth (differences A B) k)) d ∙ sym (then_refused (gives (kth (differences a b) k)) e)

      go : (x y : Judgement) → all_read a ≡ x → all_read b ≡ y
          → (both_read A B then gives (kth (differences A B) k)) ≡ (both_read a b then gives (kth (differences a b) k))
      go (gives _) (gives _) p q = ap₂ (λ (s t : List ℕ). both_read s t then gives (kth (differences s t) k)) (all_of_it a (formed a p)) (all_of_it b (formed b q))
      go (refuses f) y p q = refused (same_reads ∙ ap (λ (x : Judgement). of_side First x then of_side Second (all_read b)) p) (ap (λ (x : Judgement). of_side First x then of_side Second (all_read b)) p)
      go (gives _) (refuses f) p q =
          refused (same_reads ∙ ap₂ (λ (x y : Judgement). of_side First x then of_side Second y) p q) (ap₂ (λ (x y : Judgement). of_side First x then of_side Second y) p q)
