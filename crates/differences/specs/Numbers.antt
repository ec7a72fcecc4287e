-- A line as three numbers: what differs, with its source, modifier or set and the index; and both contents.
use Rattle.std.specs.Prelude.{◌≡◌, List, [], ◌∷◌, ◌++◌, ℕ, ◌+◌, ◌*◌, ◌^◌, ◌<◌, length, drop}
use Rattle.container.specs.Formats.{most_instructions}
use Rattle.differences.specs.declared.line.What.{What}
use Rattle.differences.specs.declared.line.What.TheVariants.{Row, Page, Flow, Destination, Source, Modifier, Added, Removed, Entry, Annotation, Version}
use Rattle.differences.specs.declared.line.Line.{Line}
use Rattle.differences.specs.Records.{field_count}

-- what differs: a number, and 2^8 times the source's index, the modifier's lowest bit or the set's number
abbrev pub what_number : What → ℕ
what_number Row = 0
what_number Page = 1
what_number Flow = 2
what_number Destination = 3
what_number (Source k) = 4 + 2 ^ 8 * k
what_number (Modifier p) = 5 + 2 ^ 8 * p
what_number Added = 6
what_number Removed = 7
what_number (Entry k) = 8 + 2 ^ 8 * k
what_number (Annotation k) = 9 + 2 ^ 8 * k
what_number Version = 10

-- and 2^16 times the index
abbrev pub head_number : Line → ℕ
head_number l = what_number l.what + 2 ^ 16 * l.index

abbrev pub line_numbers : Line → List ℕ
line_numbers l = head_number l ∷ l.first ∷ l.second ∷ []

-- a source's index, a modifier's lowest bit and a set's number are bytes
abbrev pub Bytewise : What → Type 0
Bytewise Row = Unit {0}
Bytewise Page = Unit {0}
Bytewise Flow = Unit {0}
Bytewise Destination = Unit {0}
Bytewise (Source k) = k < 256
Bytewise (Modifier p) = p < 256
Bytewise Added = Unit {0}
Bytewise Removed = Unit {0}
Bytewise (Entry k) = k < 256
Bytewise (Annotation k) = k < 256
Bytewise Version = Unit {0}

-- the numbers tell the line: no two lines have the same
abbrev pub TellLines : Type 0
TellLines = (l m : Line) → Bytewise l.what → Bytewise m.what → line_numbers l ≡ line_numbers m → l ≡ m

unfoldable pub lines_numbers : List Line → List ℕ
lines_numbers [] = []
lines_numbers (l ∷ ls) = line_numbers l ++ lines_numbers ls

-- a buffer that held `out`, with the lines at its front
abbrev pub front_filled : List Line → List ℕ → List ℕ
front_filled ls out = lines_numbers ls ++ drop (length (lines_numbers ls)) out

-- no list has more lines: all fields of all instructions and two sets of all annotations, two entry sets, and the versions
abbrev pub most_lines : ℕ
most_lines = (field_count + 2) * most_instructions + 2 + 1
