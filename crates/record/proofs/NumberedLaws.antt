-- The numbers and places that refusals of a record have. Assumes nothing.
use mathlib.Core.Path.{◌≡◌, refl}
use mathlib.Core.Bool.{Bool}
use mathlib.Core.List.{List, [], ◌∷◌}
use mathlib.Core.Logic.{◌⊎◌, inl, inr}
use Prim.Native.Nat.{ℕ, suc, ◌+◌, ◌<◌, ◌≤◌}
use native.Mathlib.Omega.{arith}
use lib.Dec.{T, ltb, ltb→lt, lit≤, lit<}
use lib.ListN.{length}
use Rattle.bits.proofs.Every.{every, and_l, and_r}
use Rattle.bits.proofs.OutcomeLaws.{Refusals, of_gives, of_then, on, weaker, Between, wider}
use Rattle.rows.specs.Kinds.{flow, legal_value}
use Rattle.rows.specs.Rows.{Row, row_of, row_count}
use Rattle.rows.specs.Layout.{Place, mask_place, low, kind_at, modifier_places}
use Rattle.record.specs.Answers.{refusal}
use Rattle.record.specs.Lists.{source_list, modifier_list}
use Rattle.record.specs.Legality.{judge_modifiers, source_ok, judge_sources, judge, roomy, judge_instruction}
use Rattle.record.specs.Defaults.{default_instruction, fresh}
use Rattle.record.specs.declared.instruction.Instruction.{Instruction}
use Rattle.record.specs.declared.answer.Refusal.{Refusal}

-- the refusal's number is one of those from a to b
abbrev pub Numbered : ℕ → ℕ → Refusal → Type 0
Numbered a b f = Between a b f.number

-- what holds of each refusal from 4 to 7, with the places that it can have, holds of what a record gets
module _ (P : Refusal → Type 0) (p6 : (b : ℕ) → b < 64 → P (refusal 6 b)) (p7 : (k : ℕ) → k < 4 → P (refusal 7 k)) where
  low_test : ℕ → Place → Bool
  low_test i p = ltb (low p) 64

  modifiers_refusals : (r : Row) (i : ℕ) (ps : List Place) (vs : List ℕ) → T (every low_test i ps) → Refusals P (judge_modifiers r ps vs)
  unfolding judge_modifiers low_test
  modifiers_refusals r i [] vs t = of_gives P tt
  modifiers_refusals r i (p ∷ ps) [] t = of_gives P tt
  modifiers_refusals r i (p ∷ ps) (v ∷ vs) t =
      on P (legal_value (kind_at r p) v) (refusal 6 (low p)) (p6 (low p) (ltb→lt (low p) 64 (and_l (ltb (low p) 64) (every low_test (suc i) ps) t)))
      (modifiers_refusals r (suc i) ps vs (and_r (ltb (low p) 64) (every low_test (suc i) ps) t))

  sources_refusals : (r : Row) (page k : ℕ) (bs : List ℕ) → k + length bs ≤ 4 → Refusals P (judge_sources r page k bs)
  unfolding judge_sources
  sources_refusals r page k [] h = of_gives P tt
  sources_refusals r page k (b ∷ bs) h = on P (source_ok r page k b) (refusal 7 k) (p7 k (omega arith)) (sources_refusals r page (suc k) bs (omega arith))

  judge_refusals : P (refusal 4 0) → P (refusal 5 0) → (r : Row) (i : Instruction) → Refusals P (judge r i)
  unfolding judge low_test
  judge_refusals p4 p5 r i =
      on P (legal_value flow i.flow) (refusal 4 0) p4
      (on P (legal_value (kind_at r mask_place) i.half_mask) (refusal 5 0) p5
      (of_then P (judge_modifiers r modifier_places (modifier_list i.modifiers)) (judge_sources r i.page 0 (source_list i.sources))
      (modifiers_refusals r 0 modifier_places (modifier_list i.modifiers) tt)
      (sources_refusals r i.page 0 (source_list i.sources) (omega arith))))

pub judge_numbers : (r : Row) (i : Instruction) → Refusals (Numbered 4 7) (judge r i)
judge_numbers = judge_refusals (Numbered 4 7) (λ b l. (lit≤ tt, lit≤ tt)) (λ k l. (lit≤ tt, lit≤ tt)) (lit≤ tt, lit≤ tt) (lit≤ tt, lit≤ tt)

-- a place is a bit of the word, or less
abbrev pub Placed : Refusal → Type 0
Placed f = f.place < 64

pub judge_places : (r : Row) (i : Instruction) → Refusals Placed (judge r i)
judge_places = judge_refusals Placed (λ b l. l) (λ k l. omega (arith, l)) (lit< tt) (lit< tt)

-- the refusal's number is one of those that writing gives: all from 2 to 9 but 3
abbrev pub OfWriting : Refusal → Type 0
OfWriting f = (f.number ≡ 2) ⊎ Numbered 4 9 f

pub instruction_numbers : (i : Instruction) → Refusals OfWriting (judge_instruction i)
unfolding judge_instruction
instruction_numbers i =
    on OfWriting (ltb i.row row_count) (refusal 2 0) (inl refl)
    (on OfWriting (roomy (row_of i.row) i) (refusal 9 0) (inr (lit≤ tt, lit≤ tt))
    (weaker (λ (f : Refusal) (n : Numbered 4 7 f). inr (wider (lit≤ tt) (lit≤ tt) n)) (judge_numbers (row_of i.row) i)))

abbrev IsTwo : Refusal → Type 0
IsTwo f = f.number ≡ 2

pub fresh_numbers : (k : ℕ) → Refusals (λ (f : Refusal). f.number ≡ 2) (fresh k)
unfolding fresh
fresh_numbers k = on IsTwo (ltb k row_count) (refusal 2 0) refl (of_gives IsTwo (default_instruction k))
