-- What the differ reads and what it tells of it (02, Item 4): the length of the first container in eight bytes, the lowest first, then the first
-- container, and then the second to the end of the input.
use Rattle.std.specs.Prelude.{◌≡◌, List, [], ◌∷◌, ◌++◌, ℕ, ◌+◌, ◌*◌, length, take, drop, Ok}
use Rattle.bits.specs.Bytes.{little}
use Rattle.bits.specs.Outcomes.{Outcome}
use Rattle.rows.specs.Names.{ascii}
use Rattle.differences.specs.declared.line.Line.{Line}
use Rattle.differences.specs.declared.answer.Side.{Side}
use Rattle.differences.specs.declared.answer.Side.TheVariants.{First, Second}
use Rattle.differences.specs.declared.answer.Unread.{Unread}
use Rattle.differences.specs.Differences.{differences}
use Rattle.differences.specs.Answers.{both_read}
use Rattle.input.specs.Input.{Input}
use Rattle.listing.specs.Cut.{read_length}
use Rattle.text.specs.Text.{line_feed}

abbrev pub length_length : ℕ
length_length = 8

-- the most that is read: of each container one byte more than the longest has
abbrev pub most_read : ℕ
most_read = length_length + 2 * read_length

-- the length that is given
abbrev pub length_in : List ℕ → ℕ
length_in s = little (take length_length s)

-- the two containers; where the first is given longer than what follows, it is what follows, and the second is empty
abbrev pub first_in : List ℕ → List ℕ
first_in s = take (length_in s) (drop length_length s)

abbrev pub second_in : List ℕ → List ℕ
second_in s = drop (length_in s) (drop length_length s)

-- whether both open and read, or which does not
abbrev pub ready : List ℕ → Outcome Unread (Unit {0})
ready s = both_read (first_in s) (second_in s)

-- what differs, line by line
abbrev pub listed : List ℕ → List Line
listed s = differences (first_in s) (second_in s)

-- which one does not open or read
abbrev pub side_line : Side → List ℕ
side_line First = ascii "differ: first" ++ (line_feed ∷ [])
side_line Second = ascii "differ: second" ++ (line_feed ∷ [])

-- the bytes are all that were read, and are parted into the two
pub record Parted (input : Input) (s first second : List ℕ) : Type 0 where
  pub all : input ≡ Ok (length s)
  pub front : first ≡ first_in s
  pub rest : second ≡ second_in s
