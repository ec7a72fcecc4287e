-- What differs as it is walked, the versions apart: field by field through the instructions that both have, and then part by part.
use Rattle.std.specs.Prelude.{◌≡◌, Option, Some, None, Bool, true, false, not, List, [], ◌∷◌, ◌++◌, ℕ, ◌+◌, ◌-◌, ◌<◌, max, eqb, ltb, get_or}
use Rattle.bits.specs.Fields.{choose}
use Rattle.bits.specs.Sets.{lowest_from}
use Rattle.differences.specs.declared.line.What.TheVariants.{Row}
use Rattle.differences.specs.declared.line.Line.{Line}
use Rattle.diff.specs.declared.cursor.At.{At}
use Rattle.differences.specs.Records.{fields, field_count}
use Rattle.differences.specs.Differences.{line, where_differs, lines_from, shared, instruction_lines}
use Rattle.diffparts.specs.Served.Parts.{singles_from}

-- field f of instruction i, where xs and ys are what it holds in the first container and in the second
abbrev pub field_line : ℕ → List ℕ → List ℕ → ℕ → List Line
field_line i xs ys f = where_differs (get_or fields f Row) i (get_or xs f 0) (get_or ys f 0)

-- the fields from f on
unfoldable pub fields_from : ℕ → ℕ → List ℕ → List ℕ → List Line
fields_from i f xs ys = lines_from (field_line i xs ys) f (field_count - f)

-- the first field from f on in which they differ, or where there is none 22 or more
unfoldable pub scanned : List ℕ → List ℕ → ℕ → ℕ
scanned xs ys f = lowest_from (λ (j : ℕ). not (eqb (get_or xs j 0) (get_or ys j 0))) (field_count - f) f

-- the same, or none
abbrev pub differing_from : List ℕ → List ℕ → ℕ → Option ℕ
differing_from xs ys f = choose (ltb (scanned xs ys f) field_count) (Some (scanned xs ys f)) None

-- the line of field f of instruction i is told, and the parts from `next` on come after its fields
abbrev pub told_at : List ℕ → List ℕ → ℕ → ℕ → ℕ → Line × At
told_at xs ys i f next =
    (line (get_or fields f Row) i (get_or xs f 0) (get_or ys f 0), record { index = i; field = f + 1; next = next })

-- what the instructions at index i hold is taken where their words differ; where they do not, no line is missed
pub record Loaded (a b : List ℕ) (i : ℕ) (r : Bool) (xs ys : List ℕ) : Type 0 where
  pub differ : r ≡ true → instruction_lines a b i ≡ fields_from i 0 xs ys
  pub same : r ≡ false → instruction_lines a b i ≡ []

-- r is the first field in which they differ; or there is none
pub record Found (a b : List ℕ) (i : ℕ) (r : Option ℕ) (xs ys : List ℕ) : Type 0 where
  pub differ : (f : ℕ) → r ≡ Some f
      → (f < field_count) × (instruction_lines a b i ≡ line (get_or fields f Row) i (get_or xs f 0) (get_or ys f 0) ∷ fields_from i (f + 1) xs ys)
  pub same : r ≡ None → instruction_lines a b i ≡ []

-- the instructions that both have from i on, and after them the parts from p on
abbrev pub from_instruction : List ℕ → List ℕ → ℕ → ℕ → List Line
from_instruction a b p i = lines_from (instruction_lines a b) i (shared a b - i) ++ singles_from a b p

-- what is still to be told
unfoldable pub remaining : List ℕ → List ℕ → At → List ℕ → List ℕ → List Line
remaining a b at xs ys =
    fields_from at.index at.field xs ys ++ from_instruction a b (max at.next (shared a b)) at.next

-- a step tells the first line of what remains, and leaves the rest; or nothing remains
abbrev pub stepped : List ℕ → List ℕ → Option (Line × At) → List ℕ → List ℕ → List Line
stepped a b (Some r) xs ys = r.0 ∷ remaining a b r.1 xs ys
stepped a b None xs ys = []

-- the same along the instructions that both have, after which the parts from p on remain
abbrev pub stage_stepped : List ℕ → List ℕ → ℕ → Option (Line × At) → List ℕ → List ℕ → List Line
stage_stepped a b p (Some r) xs ys = r.0 ∷ remaining a b r.1 xs ys
stage_stepped a b p None xs ys = singles_from a b p
