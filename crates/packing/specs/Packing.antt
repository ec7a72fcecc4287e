-- Writing a container (01, The parcel; 02, Item 7): its bytes, of a version, an entry set, words and annotations, and the refusal where
-- these make none.
use Rattle.std.specs.Prelude.{◌≡◌, Bool, ◌&&◌, List, [], ◌∷◌, ◌++◌, ℕ, ◌*◌, ◌/◌, ◌<◌, ◌≤◌, leb, eqb, length, Err, Ok, Result}
use Rattle.reasons.specs.declared.Reason.{Reason}
use Rattle.reasons.specs.Numbers.{number_of}
use Rattle.bits.specs.Bytes.{little_bytes}
use Rattle.bits.specs.Fields.{choose}
use Rattle.bits.specs.Halves.{halves}
use Rattle.bits.specs.declared.halves.Halves.{Halves}
use Rattle.bits.specs.Outcomes.{Outcome, refuses, passes, require, ◌then◌, kept_or}
use Rattle.container.specs.Formats.{known, annotation_length, high_offset, most_of, word_length, container_length}
use Rattle.container.specs.Opening.{Rejection, unplaced}

-- how many words a length in bytes holds
abbrev pub word_count : ℕ → ℕ
word_count len = len / word_length

-- words and annotations of these lengths in bytes make a container of a version: n words, n from 1 to its most, and n annotations
unfoldable pub fitting : ℕ → ℕ → ℕ → Bool
fitting v words annotations =
    leb 1 (word_count words)
    && (leb (word_count words) (most_of v)
    && (eqb words (word_length * word_count words)
    && eqb annotations (annotation_length v * word_count words)))

-- the same as a statement
pub record Fitting (v words annotations : ℕ) : Type 0 where
  -- at least one word, no more than the version has, and no part of a word is left over
  pub some : 0 < word_count words
  pub few : word_count words ≤ most_of v
  pub whole : words ≡ word_length * word_count words
  -- as many annotations as words
  pub noted : annotations ≡ annotation_length v * word_count words

-- the mark, the letters `VSP` in ASCII
abbrev pub mark : List ℕ
mark = 86 ∷ 83 ∷ 80 ∷ []

-- what stands before the entry set of a container of n instructions: the mark, the version, a byte 0 and n
unfoldable pub front_bytes : ℕ → ℕ → List ℕ
front_bytes v n = mark ++ little_bytes 2 v ++ (0 ∷ []) ++ little_bytes 2 n

-- a set of halves as a version writes it: in version 1 the low one stands for both
unfoldable pub halves_bytes : ℕ → Halves → List ℕ
halves_bytes v e = little_bytes 8 e.low ++ choose (eqb (high_offset v) 0) [] (little_bytes 8 e.high)

-- what a version makes of a set of halves: the set that is read again where it is written
unfoldable pub taken : ℕ → Halves → Halves
taken v e = halves e.low (choose (eqb (high_offset v) 0) e.low e.high)

-- the container of a version, an entry set, words and annotations
unfoldable pub container_bytes : ℕ → Halves → List ℕ → List ℕ → List ℕ
container_bytes v entry words annotations =
    front_bytes v (word_count (length words)) ++ halves_bytes v entry ++ words ++ annotations

-- the outcome that each answer stands for: the buffer is filled, or the paper's number with place 0
abbrev pub packing_outcome : Result (Unit {0}) Reason → Outcome Rejection (Unit {0})
packing_outcome (Ok tt) = passes
packing_outcome (Err r) = refuses (unplaced (number_of r))

-- writing a container into a buffer that holds `out` (01, Numbers given back)
unfoldable pub pack_outcome : ℕ → Halves → List ℕ → List ℕ → List ℕ → Outcome Rejection (Unit {0})
pack_outcome v entry words annotations out =
    -- no version that there is
    require (known v) (unplaced 11)
    -- no count from 1 to the most of the version, or not as many annotations as words
    then require (fitting v (length words) (length annotations)) (unplaced 12)
    -- another length than version and count ask
    then require (eqb (length out) (container_length v (word_count (length words)))) (unplaced 12)

-- the buffer afterwards: the container, or on a refusal what it held
unfoldable pub pack_buffer : ℕ → Halves → List ℕ → List ℕ → List ℕ → List ℕ
pack_buffer v entry words annotations out = kept_or (pack_outcome v entry words annotations out) (container_bytes v entry words annotations) out
