-- A source, with the places of its modifiers as the code has them. Assumes nothing.
use mathlib.Core.Path.{◌≡◌, refl, ap}
use mathlib.Core.List.{List, [], ◌∷◌, ◌++◌}
use Prim.Native.Nat.{ℕ, zero, suc, ◌-◌, ◌≤◌}
use native.Mathlib.Omega.{arith}
use lib.ListN.{length}
use Rattle.rows.specs.Sources.{meaning}
use Rattle.fieldtext.specs.Served.Coded.{coded_texts}
use Rattle.sourcetext.specs.SourceText.{meaning_text}
use Rattle.sourcetext.specs.Served.SourcePlaces.{sign_places, swizzle_places, coded_source}

three_more : (k : ℕ) → 3 ≤ k → k ≡ suc (suc (suc (k - 3)))
three_more k h = omega arith

pub signs_past : (k : ℕ) → 3 ≤ k → sign_places k ≡ 14 ∷ 14 ∷ []
signs_past k h = ap sign_places (three_more k h)

pub swizzles_past : (k : ℕ) → 3 ≤ k → swizzle_places k ≡ 14 ∷ 14 ∷ 14 ∷ []
swizzles_past k h = ap swizzle_places (three_more k h)

-- a source, with the places of its modifiers as the code has them
pub source_placed : (kinds values : List ℕ) (page b k : ℕ) {signs swizzles : List ℕ} → signs ≡ sign_places k → swizzles ≡ swizzle_places k
    → meaning_text (meaning page b) ++ coded_texts 13 14 kinds values signs ++ coded_texts 15 23 kinds values swizzles ≡ coded_source kinds values page b k
unfolding coded_source
source_placed kinds values page b k p q = rw (p, q)

pub three_swizzles : (k : ℕ) → length (swizzle_places k) ≡ 3
three_swizzles zero = refl
three_swizzles (suc zero) = refl
three_swizzles (suc (suc zero)) = refl
three_swizzles (suc (suc (suc k))) = refl
