-- The modifiers of a source by their index among all, as the code goes through them, and a source by them.
use Rattle.std.specs.Prelude.{List, [], ◌∷◌, ◌++◌, ℕ, zero, suc}
use Rattle.rows.specs.Sources.{meaning}
use Rattle.fieldtext.specs.Served.Coded.{coded_texts}
use Rattle.sourcetext.specs.SourceText.{meaning_text}

-- negate and absolute of source k; 14 stands for no modifier
abbrev pub sign_places : ℕ → List ℕ
sign_places zero = 12 ∷ 13 ∷ []
sign_places (suc zero) = 10 ∷ 11 ∷ []
sign_places (suc (suc zero)) = 8 ∷ 9 ∷ []
sign_places (suc (suc (suc k))) = 14 ∷ 14 ∷ []

-- where source k has its swizzle
abbrev pub swizzle_places : ℕ → List ℕ
swizzle_places zero = 5 ∷ 10 ∷ 11 ∷ []
swizzle_places (suc zero) = 4 ∷ 14 ∷ 14 ∷ []
swizzle_places (suc (suc zero)) = 3 ∷ 14 ∷ 14 ∷ []
swizzle_places (suc (suc (suc k))) = 14 ∷ 14 ∷ 14 ∷ []

-- source k of modifiers by their kinds and values, with its byte b on a page
unfoldable pub coded_source : List ℕ → List ℕ → ℕ → ℕ → ℕ → List ℕ
coded_source ks vs page b k =
    meaning_text (meaning page b) ++ coded_texts 13 14 ks vs (sign_places k) ++ coded_texts 15 23 ks vs (swizzle_places k)
