-- A line of a comparison as text, in ASCII (02, Items 4 and 7): the index, the field and both contents.
use Rattle.std.specs.Prelude.{List, [], ◌∷◌, ◌++◌, ℕ, ◌+◌, eqb}
use Rattle.bits.specs.Fields.{choose}
use Rattle.rows.specs.Names.{ascii, name_of, name_width}
use Rattle.reading.specs.Reader.{read_number}
use Rattle.text.specs.Text.{space, line_feed, decimal, hex}
use Rattle.text.specs.Name.{name_in}
use Rattle.differences.specs.declared.line.What.{What}
use Rattle.differences.specs.declared.line.What.TheVariants.{Row, Page, Flow, Destination, Source, Modifier, Added, Removed, Entry, Annotation, Version}
use Rattle.differences.specs.declared.line.Line.{Line}

-- the index in four decimal digits, and what differs there
abbrev pub head : ℕ → List ℕ → List ℕ
head i label = decimal 4 i ++ label

-- what stands between the two contents
unfoldable pub arrow : List ℕ
arrow = ascii " ->"

-- both contents in k hexadecimal digits
abbrev pub both : ℕ → ℕ → ℕ → List ℕ
both k x y = (space ∷ hex k x) ++ arrow ++ (space ∷ hex k y)

-- the hexadecimal digits of a modifier, by its lowest bit: one, but seven at bit 8, where the 27 bits of a branch offset can stand
abbrev pub modifier_digits : ℕ → ℕ
modifier_digits p = choose (eqb p 8) 7 1

-- how many digits a content has: decimal ones of a row's number, hexadecimal ones of all else
abbrev pub content_digits : What → ℕ
content_digits Row = 2
content_digits Page = 1
content_digits Flow = 1
content_digits Destination = 2
content_digits (Source _) = 2
content_digits (Modifier p) = modifier_digits p
content_digits Added = 16
content_digits Removed = 16
content_digits (Entry _) = 16
content_digits (Annotation _) = 16
content_digits Version = 1

-- both contents in their digits
abbrev pub pair : What → ℕ → ℕ → List ℕ
pair w x y = both (content_digits w) x y

-- a row by its number and its name
abbrev pub row_text : ℕ → List ℕ
row_text n = (space ∷ decimal (content_digits Row) n) ++ (space ∷ name_of n)

-- a word, and the name of what it says
abbrev pub word_text : ℕ → List ℕ
word_text w = (space ∷ hex (content_digits Added) w) ++ (space ∷ name_in (read_number w))

-- which set: that of the low halves or that of the high halves; the one set of version 1 is not named
abbrev pub set_name : ℕ → List ℕ
set_name k = choose (eqb k 1) (ascii " low") (choose (eqb k 2) (ascii " high") [])

-- what differs at index i, and the contents: both, or the one word of an instruction that only one has; entry sets and versions have no index
abbrev pub told : What → ℕ → ℕ → ℕ → List ℕ
told Row i x y = head i (ascii " row") ++ row_text x ++ arrow ++ row_text y
told Page i x y = head i (ascii " page") ++ pair Page x y
told Flow i x y = head i (ascii " flow") ++ pair Flow x y
told Destination i x y = head i (ascii " destination") ++ pair Destination x y
told (Source k) i x y = head i (ascii " source") ++ (space ∷ decimal 1 k) ++ pair (Source k) x y
told (Modifier p) i x y = head i (ascii " modifier") ++ (space ∷ decimal 2 p) ++ pair (Modifier p) x y
told Added i x y = head i (ascii " added") ++ word_text y
told Removed i x y = head i (ascii " removed") ++ word_text x
told (Entry k) i x y = ascii "entry" ++ set_name k ++ pair (Entry k) x y
told (Annotation k) i x y = head i (ascii " note") ++ set_name k ++ pair (Annotation k) x y
told Version i x y = ascii "version" ++ pair Version x y

-- a line feed at the end
unfoldable pub line_text : Line → List ℕ
line_text l = told l.what l.index l.first l.second ++ (line_feed ∷ [])

-- the most bytes that a line has, which is told of two rows
abbrev pub longest_row : ℕ
longest_row = 1 + 2 + 1 + name_width

abbrev pub longest_told : ℕ
longest_told = 4 + 4 + longest_row + 3 + longest_row

abbrev pub longest_text : ℕ
longest_text = longest_told + 1
