-- Lazy comparisons that Item 4 of paper 02 must exclude.
use Rattle.std.specs.Prelude.{◌≡◌, List, ℕ, ◌<◌, get_or, Some}
use Rattle.bits.specs.Outcomes.{gives}
use Rattle.safety.specs.Program.{WellFormed}
use Rattle.differences.specs.declared.line.What.TheVariants.{Row}
use Rattle.differences.specs.declared.line.Line.{Line}
use Rattle.differences.specs.Records.{fields, field_count}
use Rattle.differences.specs.Differences.{shared}
use Rattle.differences.specs.Asked.{Comparison}

-- one that never lists anything
abbrev pub NeverLists : Comparison → Type 0
NeverLists c = (a b : List ℕ) (k : ℕ) (l : Line) → ¬ (c a b k ≡ gives (Some l))

-- a line for field j of instruction i
abbrev pub IsOf : Line → ℕ → ℕ → Type 0
IsOf l i j = (l.index ≡ i) × (l.what ≡ get_or fields j Row)

-- one that lists every field of every instruction that both have
abbrev pub ListsEveryField : Comparison → Type 0
ListsEveryField c =
    (a b : List ℕ) → WellFormed a → WellFormed b → (i j : ℕ) → i < shared a b → j < field_count
    → (k : ℕ) × (l : Line) × ((c a b k ≡ gives (Some l)) × IsOf l i j)
