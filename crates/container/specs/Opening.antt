-- Opening a container: its header, or the first refusal, and the part of the lent bytes that the annotations are.
use Rattle.std.specs.Prelude.{◌≡◌, ◌&&◌, List, ℕ, ◌+◌, ◌*◌, leb, eqb, length, Err, Ok, Result}
use Rattle.reasons.specs.declared.Reason.{Reason}
use Rattle.reasons.specs.Numbers.{number_of}
use Rattle.std.specs.Borrow.{Bor}
use Rattle.bits.specs.Outcomes.{Outcome, gives, refuses, require, ◌then◌}
use Rattle.container.specs.declared.header.Header.{Header}
use Rattle.container.specs.Formats.{known, header_length, word_length, annotation_length, most_of, shortest_header, container_length}
use Rattle.container.specs.Container.{part, marked, version_of, zero_of, count_of, entry_of, annotations_start}

-- what a refusal of opening, or of asking for a word, tells (01, Numbers given back): its number and its place
pub record Rejection : Type 0 where
  pub number : ℕ
  pub place : ℕ

-- these refusals name no place, so it is 0
abbrev pub unplaced : ℕ → Rejection
unplaced n = record { number = n; place = 0 }

-- the outcome that each answer of opening stands for: a header, or the paper's number with place 0
abbrev pub opening_outcome : Result Header Reason → Outcome Rejection Header
opening_outcome (Ok h) = gives h
opening_outcome (Err r) = refuses (unplaced (number_of r))

-- what opening gives: the version, n and the entry set
abbrev pub header_of : List ℕ → Header
header_of s = record { version = version_of s; count = count_of s; entry = entry_of s }

-- opening, with the tests in the order of 01, Numbers given back, and of 02, Item 7
unfoldable pub open_outcome : List ℕ → Outcome Rejection Header
open_outcome s =
    -- shorter than any header
    require (leb shortest_header (length s)) (unplaced 12)
    -- another mark
    then require (marked s) (unplaced 10)
    -- no version that there is
    then require (known (version_of s)) (unplaced 11)
    -- byte 5 is not 0
    then require (eqb (zero_of s) 0) (unplaced 13)
    -- no count from 1 to the most of the version
    then require (leb 1 (count_of s) && leb (count_of s) (most_of (version_of s))) (unplaced 12)
    -- another length than version and count ask
    then require (eqb (length s) (container_length (version_of s) (count_of s))) (unplaced 12)
    then gives (header_of s)

-- the bytes s open
abbrev pub Opens : List ℕ → Type 0
Opens s = open_outcome s ≡ gives (header_of s)

-- r is the k bytes from `start` of the lent bytes s, where they stand: in the same memory, that many bytes further on
pub record InPlace (s r : Bor (List ℕ)) (start k : ℕ) : Type 0 where
  pub place : r.ref_ptr ≡ (s.ref_ptr.0, s.ref_ptr.1 + start)
  pub contents : r.now ≡ part s.now start k

-- the words, and the annotations, as a part of the lent bytes themselves (01, The parcel); where they do not open the part is empty, at
-- the front
abbrev pub WordsIn : Outcome Rejection Header → Bor (List ℕ) → Bor (List ℕ) → Type 0
WordsIn (gives h) s r = InPlace s r (header_length h.version) (word_length * h.count)
WordsIn (refuses _) s r = InPlace s r 0 0

abbrev pub AnnotationsIn : Outcome Rejection Header → Bor (List ℕ) → Bor (List ℕ) → Type 0
AnnotationsIn (gives h) s r = InPlace s r (annotations_start h.version h.count) (annotation_length h.version * h.count)
AnnotationsIn (refuses _) s r = InPlace s r 0 0

-- r is the words, or the annotations, of the lent bytes s
abbrev pub Words : Bor (List ℕ) → Bor (List ℕ) → Type 0
Words s r = WordsIn (open_outcome s.now) s r

abbrev pub Annotations : Bor (List ℕ) → Bor (List ℕ) → Type 0
Annotations s r = AnnotationsIn (open_outcome s.now) s r
