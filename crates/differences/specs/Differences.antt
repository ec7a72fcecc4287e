-- The list of differences between two containers (02, Items 4 and 7). The first is the approved one, the second the one that was delivered.
use Rattle.std.specs.Prelude.{List, [], ◌∷◌, ◌++◌, ℕ, zero, suc, ◌-◌, min, eqb}
use Rattle.bits.specs.Fields.{choose}
use Rattle.bits.specs.Bytes.{little}
use Rattle.container.specs.Container.{version_of, count_of, entry_of, words_of, eight}
use Rattle.record.specs.declared.instruction.Instruction.{Instruction}
use Rattle.safety.specs.Program.{instruction_at}
use Rattle.differences.specs.declared.line.What.{What}
use Rattle.differences.specs.declared.line.What.TheVariants.{Version, Added, Removed, Entry, Annotation}
use Rattle.differences.specs.declared.line.Line.{Line}
use Rattle.differences.specs.Records.{fields, contents}
use Rattle.differences.specs.Sets.{compared, note_of, set_in}

-- a line: what differs, at which index, and both contents
abbrev pub line : What → ℕ → ℕ → ℕ → Line
line w i x y = record { what = w; index = i; first = x; second = y }

-- a line where the contents differ, and none where they are equal
abbrev pub where_differs : What → ℕ → ℕ → ℕ → List Line
where_differs w i x y = choose (eqb x y) [] (line w i x y ∷ [])

-- the lines of index i, field by field
unfoldable pub field_lines : ℕ → List What → List ℕ → List ℕ → List Line
field_lines i (w ∷ ws) (x ∷ xs) (y ∷ ys) = where_differs w i x y ++ field_lines i ws xs ys
field_lines i [] xs ys = []
field_lines i (w ∷ ws) [] ys = []
field_lines i (w ∷ ws) (x ∷ xs) [] = []

-- the lines of n indexes from i up
unfoldable pub lines_from : (ℕ → List Line) → ℕ → ℕ → List Line
lines_from f i zero = []
lines_from f i (suc n) = f i ++ lines_from f (suc i) n

-- the lines of some sets, one after the other
unfoldable pub lines_of : (ℕ → List Line) → List ℕ → List Line
lines_of f [] = []
lines_of f (k ∷ ks) = f k ++ lines_of f ks

-- what a container s has at index i: its instruction (the paper's record), and its word
abbrev pub instruction_of : List ℕ → ℕ → Instruction
instruction_of s i = instruction_at (words_of s) i

abbrev pub word_of : List ℕ → ℕ → ℕ
word_of s i = little (eight (words_of s) i)

-- an index that both have is below this
abbrev pub shared : List ℕ → List ℕ → ℕ
shared a b = min (count_of a) (count_of b)

-- the versions
abbrev pub version_lines : List ℕ → List ℕ → List Line
version_lines a b = where_differs Version 0 (version_of a) (version_of b)

-- both have an instruction at index i: a line for each field in which they differ
unfoldable pub instruction_lines : List ℕ → List ℕ → ℕ → List Line
instruction_lines a b i = field_lines i fields (contents (instruction_of a i)) (contents (instruction_of b i))

-- only the first has it, or only the second, with its word
abbrev pub removed_line : List ℕ → ℕ → List Line
removed_line a i = line Removed i (word_of a i) 0 ∷ []

abbrev pub added_line : List ℕ → ℕ → List Line
added_line b i = line Added i 0 (word_of b i) ∷ []

-- the extra instructions of the longer one: at least one of the two lists is empty
unfoldable pub extra_lines : List ℕ → List ℕ → List Line
extra_lines a b =
    lines_from (removed_line a) (count_of b) (count_of a - count_of b) ++ lines_from (added_line b) (count_of a) (count_of b - count_of a)

-- set k of the entry sets, and of the annotations of an index that both have
abbrev pub entry_line : List ℕ → List ℕ → ℕ → List Line
entry_line a b k = where_differs (Entry k) 0 (set_in k (entry_of a)) (set_in k (entry_of b))

abbrev pub note_line : List ℕ → List ℕ → ℕ → ℕ → List Line
note_line a b i k = where_differs (Annotation k) i (set_in k (note_of a i)) (set_in k (note_of b i))

-- a line for each set that differs
unfoldable pub entry_lines : List ℕ → List ℕ → List Line
entry_lines a b = lines_of (entry_line a b) (compared a b)

unfoldable pub note_lines : List ℕ → List ℕ → ℕ → List Line
note_lines a b i = lines_of (note_line a b i) (compared a b)

-- what the containers hold: instructions that differ, extra instructions, entry sets, annotations at shared indexes
unfoldable pub content_lines : List ℕ → List ℕ → List Line
content_lines a b =
    lines_from (instruction_lines a b) 0 (shared a b)
    ++ extra_lines a b
    ++ entry_lines a b
    ++ lines_from (note_lines a b) 0 (shared a b)

-- the list: the versions where they differ, then what they hold, and nothing else
unfoldable pub differences : List ℕ → List ℕ → List Line
differences a b = version_lines a b ++ content_lines a b
