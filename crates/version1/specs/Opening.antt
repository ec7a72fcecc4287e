-- Opening a container where version 1 is the only one (01): its header, or the first refusal.
use Rattle.std.specs.Prelude.{◌≡◌, ◌&&◌, List, ℕ, leb, eqb, length}
use Rattle.bits.specs.Outcomes.{Outcome, gives, require, ◌then◌}
use Rattle.container.specs.Container.{marked, version_of, zero_of, count_of}
use Rattle.container.specs.Opening.{Rejection, unplaced}
use Rattle.version1.specs.Container.{header_length, version, most_instructions, entry_of, container_length}

-- how many instructions there are, and the entry set
pub record Header : Type 0 where
  pub count : ℕ
  pub entry : ℕ

-- what opening gives: n and the entry set
abbrev pub header_of : List ℕ → Header
header_of s = record { count = count_of s; entry = entry_of s }

-- opening, with the tests in the order of 01, Numbers given back
unfoldable pub open_outcome : List ℕ → Outcome Rejection Header
open_outcome s =
    -- shorter than a header
    require (leb header_length (length s)) (unplaced 12)
    -- another mark
    then require (marked s) (unplaced 10)
    -- another version
    then require (eqb (version_of s) version) (unplaced 11)
    -- byte 5 is not 0
    then require (eqb (zero_of s) 0) (unplaced 13)
    -- no count from 1 to 2048
    then require (leb 1 (count_of s) && leb (count_of s) most_instructions) (unplaced 12)
    -- another length than the count asks
    then require (eqb (length s) (container_length (count_of s))) (unplaced 12)
    then gives (header_of s)

-- the bytes s open
abbrev pub Opens : List ℕ → Type 0
Opens s = open_outcome s ≡ gives (header_of s)
