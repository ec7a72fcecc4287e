-- The word at an index of a container, and refusal 14 where there is none (01, The parcel and Numbers given back).
use Rattle.std.specs.Prelude.{List, ℕ, ◌+◌, leb, ltb, length, Err, Ok, Result}
use Rattle.reasons.specs.declared.Reason.{Reason}
use Rattle.reasons.specs.Numbers.{number_of}
use Rattle.bits.specs.Outcomes.{Outcome, gives, refuses, require, ◌then◌}
use Rattle.container.specs.declared.header.Header.{Header}
use Rattle.container.specs.Formats.{word_length}
use Rattle.container.specs.Container.{number, version_of, word_start}
use Rattle.container.specs.Opening.{Rejection, unplaced, open_outcome}

-- the outcome that each answer stands for: a word, or the paper's number with place 0
abbrev pub fetched_outcome : Result ℕ Reason → Outcome Rejection ℕ
fetched_outcome (Ok w) = gives w
fetched_outcome (Err r) = refuses (unplaced (number_of r))

-- the word at index i of the bytes s, of a container of n instructions. The length of the header is that of the version that the bytes
-- carry; where the version is none that there is, 16.
unfoldable pub word_outcome : List ℕ → ℕ → ℕ → Outcome Rejection ℕ
word_outcome s n i =
    -- n is not above the index
    require (ltb i n) (unplaced 14)
    -- the word is not whole inside the bytes, as it can be where n is made up
    then require (leb (word_start (version_of s) i + word_length) (length s)) (unplaced 14)
    then gives (number s (word_start (version_of s) i) word_length)

-- n where the bytes open, and no instructions where they do not
abbrev pub count_in : Outcome Rejection Header → ℕ
count_in (gives h) = h.count
count_in (refuses _) = 0

unfoldable pub open_count : List ℕ → ℕ
open_count s = count_in (open_outcome s)
