-- Version 1 in a comparison (02, Item 7): its sets are taken as both halves, and two version 1 containers list as before there were halves.
use Rattle.std.specs.Prelude.{◌≡◌, List, ◌++◌, ℕ, ◌*◌}
use Rattle.container.specs.Container.{number, version_of, entry_of, annotations_of}
use Rattle.differences.specs.declared.line.What.TheVariants.{Entry, Annotation}
use Rattle.differences.specs.declared.line.Line.{Line}
use Rattle.differences.specs.Sets.{note_of, set_in}
use Rattle.differences.specs.Differences.{where_differs, lines_from, shared, instruction_lines, extra_lines, differences}

-- the entry set as it stands in a version 1 container, and the annotation (the paper's note) at index i
abbrev pub one_entry : List ℕ → ℕ
one_entry s = number s 8 8

abbrev pub one_note : List ℕ → ℕ → ℕ
one_note s i = number (annotations_of s) (8 * i) 8

-- whichever set is compared, it is that one
pub record TakenAsBoth (s : List ℕ) : Type 0 where
  pub entry : (k : ℕ) → set_in k (entry_of s) ≡ one_entry s
  pub note : (i k : ℕ) → set_in k (note_of s i) ≡ one_note s i

abbrev pub Version1AsBoth : Type 0
Version1AsBoth = (s : List ℕ) → version_of s ≡ 1 → TakenAsBoth s

-- the list of Item 4: one line for the entry sets, and one for the annotations of an index
unfoldable pub one_set_list : List ℕ → List ℕ → List Line
one_set_list a b =
    lines_from (instruction_lines a b) 0 (shared a b)
    ++ extra_lines a b
    ++ where_differs (Entry 0) 0 (one_entry a) (one_entry b)
    ++ lines_from (λ (i : ℕ). where_differs (Annotation 0) i (one_note a i) (one_note b i)) 0 (shared a b)

-- two version 1 containers list as before
abbrev pub Version1AsBefore : Type 0
Version1AsBefore = (a b : List ℕ) → version_of a ≡ 1 → version_of b ≡ 1 → differences a b ≡ one_set_list a b
