-- The instruction's own modifiers by their index among all, as the code goes through them, and the sources.
use Rattle.std.specs.Prelude.{List, [], ◌∷◌, ◌++◌, ℕ, zero, suc, ◌+◌, get_or}
use Rattle.disasm.specs.Assembly.{separator}
use Rattle.sourcetext.specs.Served.SourcePlaces.{coded_source}

-- bits 8, 10, 11, 35, 36, 32 and 30
abbrev pub own_places : List ℕ
own_places = 0 ∷ 1 ∷ 2 ∷ 9 ∷ 10 ∷ 7 ∷ 6 ∷ []

-- the first n sources, whose bytes are given, after so many operands
unfoldable pub coded_sources : List ℕ → List ℕ → ℕ → List ℕ → ℕ → ℕ → List ℕ
coded_sources ks vs page bs first zero = []
coded_sources ks vs page bs first (suc k) =
    coded_sources ks vs page bs first k ++ (separator (first + k) ++ coded_source ks vs page (get_or bs k 0) k)
