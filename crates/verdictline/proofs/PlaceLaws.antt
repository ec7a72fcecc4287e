-- The field for the place of a refusal: only of the numbers 2 to 7. Assumes nothing.
use mathlib.Core.Path.{◌≡◌, refl, ap}
use mathlib.Core.Bool.{Bool, true, false, ◌&&◌}
use mathlib.Core.List.{List, [], ◌∷◌, ◌++◌}
use Prim.Native.Nat.{ℕ, ◌<◌, ◌≤◌}
use lib.Dec.{leb, ltb}
use borrow.Author.Tests.{le-leb, lt-leb, ltb-true, ltb-false}
use Rattle.bits.specs.Outcomes.{refuses}
use Rattle.safety.specs.declared.verdict.Finding.{Finding}
use Rattle.safety.specs.Passed.{Unreadable}
use Rattle.text.specs.Text.{space, line_feed, decimal}
use Rattle.verdictline.specs.VerdictLine.{refusal_fields, place_field, verdict_line}

module _ (f : Finding) where
  -- the line, with the field and without
  pub line_placed : {x : List ℕ} → place_field f ≡ x → verdict_line (refuses f) ≡ refusal_fields f ++ (x ++ (line_feed ∷ []))
  unfolding verdict_line
  line_placed e = ap (λ (x : List ℕ). refusal_fields f ++ (x ++ (line_feed ∷ []))) e

  pub no_place_below : f.number < 2 → place_field f ≡ []
  no_place_below l = rw (lt-leb 2 f.number l)

  pub no_place_above : 7 < f.number → place_field f ≡ []
  no_place_above l = rw (lt-leb f.number 7 l, and_false (leb 2 f.number))
    where
      and_false : (t : Bool) → t && false ≡ false
      and_false true = refl
      and_false false = refl

  pub no_place : (¬ Unreadable f) → place_field f ≡ []
  no_place n = go (ltb f.number 2) refl (ltb 7 f.number) refl
    where
      go : (a : Bool) → ltb f.number 2 ≡ a → (b : Bool) → ltb 7 f.number ≡ b → place_field f ≡ []
      go true p b q = no_place_below (ltb-true f.number 2 p)
      go false p true q = no_place_above (ltb-true 7 f.number q)
      go false p false q = absurd (n (ltb-false f.number 2 p, ltb-false 7 f.number q))

  pub place_there : 2 ≤ f.number → f.number ≤ 7 → space ∷ decimal 2 f.place ≡ place_field f
  place_there a b = rw (le-leb 2 f.number a, le-leb f.number 7 b)
