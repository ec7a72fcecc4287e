-- The parts of the list that come after the instructions that both have, where a part is an extra instruction, or a set of the entry sets
-- or of an annotation that both have.
use Rattle.std.specs.Prelude.{◌≡◌, Option, Some, None, List, [], ◌∷◌, ℕ, ◌+◌, ◌-◌, ◌*◌, ◌/◌, ◌%◌, max, eqb, ltb, length, get_or}
use Rattle.bits.specs.Fields.{choose}
use Rattle.container.specs.Container.{count_of}
use Rattle.safety.specs.Program.{WellFormed}
use Rattle.differences.specs.declared.line.Line.{Line}
use Rattle.differences.specs.Sets.{compared}
use Rattle.differences.specs.Differences.{lines_from, shared, removed_line, added_line, entry_line, note_line}

-- two containers that open and read,
pub record Both (a b : List ℕ) : Type 0 where
  pub first : WellFormed a
  pub second : WellFormed b

-- and have n and m instructions
pub record Counted (a : List ℕ) (n : ℕ) (b : List ℕ) (m : ℕ) : Type 0 where
  pub both : Both a b
  pub first_count : n ≡ count_of a
  pub second_count : m ≡ count_of b

-- how many instructions the longer one has
abbrev pub longer : List ℕ → List ℕ → ℕ
longer a b = max (count_of a) (count_of b)

-- how many sets are compared
abbrev pub set_count : List ℕ → List ℕ → ℕ
set_count a b = length (compared a b)

-- how many parts there are, counted with the instructions that both have: after the extra instructions come the sets of the entry sets, and
-- those of each annotation that both have
abbrev pub part_count : List ℕ → List ℕ → ℕ
part_count a b = longer a b + set_count a b * (shared a b + 1)

-- the lines of an answer about one part
abbrev pub single_told : Option Line → List Line
single_told (Some l) = l ∷ []
single_told None = []

-- set k of the entry sets, where j is 0, and of the annotations at index j - 1
unfoldable pub set_line : List ℕ → List ℕ → ℕ → ℕ → List Line
set_line a b j k = choose (eqb j 0) (entry_line a b k) (note_line a b (j - 1) k)

-- part q of the sets
unfoldable pub set_part : List ℕ → List ℕ → ℕ → List Line
set_part a b q = set_line a b (q / set_count a b) (get_or (compared a b) (q % set_count a b) 0)

-- part p, after the instructions that both have
unfoldable pub single_lines : List ℕ → List ℕ → ℕ → List Line
single_lines a b p = choose (ltb p (count_of a)) (removed_line a p) (choose (ltb p (count_of b)) (added_line b p) (set_part a b (p - longer a b)))

-- the parts from p on
unfoldable pub singles_from : List ℕ → List ℕ → ℕ → List Line
singles_from a b p = lines_from (single_lines a b) p (part_count a b - p)
