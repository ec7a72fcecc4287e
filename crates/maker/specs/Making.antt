-- What the maker reads and what it makes of it (02, Items 1 and 7): a version, the low halves and the high halves of the entry set, each in
-- eight bytes, the lowest first, and then the words.
use Rattle.std.specs.Prelude.{◌≡◌, List, ℕ, ◌+◌, ◌*◌, ◌≤◌, leb, length, drop, replicate, Ok}
use Rattle.bits.specs.Halves.{halves}
use Rattle.bits.specs.declared.halves.Halves.{Halves}
use Rattle.bits.specs.Outcomes.{Outcome, require, ◌then◌}
use Rattle.container.specs.Formats.{word_length, annotation_length, most_instructions}
use Rattle.container.specs.Container.{number}
use Rattle.packing.specs.Packing.{word_count, container_bytes}
use Rattle.safety.specs.declared.verdict.Finding.{Finding}
use Rattle.safety.specs.Verdict.{plain}
use Rattle.infer.specs.Inference.{infer_outcome, infer_buffer}
use Rattle.input.specs.Input.{Input}

-- what stands before the words
abbrev pub front_length : ℕ
front_length = 24

-- one byte more than that and the most words
abbrev pub read_length : ℕ
read_length = front_length + word_length * most_instructions + 1

abbrev pub version_in : List ℕ → ℕ
version_in s = number s 0 8

abbrev pub entry_in : List ℕ → Halves
entry_in s = halves (number s 8 8) (number s 16 8)

abbrev pub words_in : List ℕ → List ℕ
words_in s = drop front_length s

-- a buffer for the annotations of some words in a version
abbrev pub blank : ℕ → List ℕ → List ℕ
blank v words = replicate (annotation_length v * word_count (length words)) 0

-- the number of sweeps, or the first refusal; an input that is too short for what stands before the words has a wrong length
unfoldable pub answer_to : List ℕ → Outcome Finding ℕ
answer_to s =
    require (leb front_length (length s)) (plain 12 0 0)
    then infer_outcome (version_in s) (words_in s) (entry_in s) (blank (version_in s) (words_in s))

-- the annotations that are proposed
unfoldable pub notes_for : List ℕ → List ℕ
notes_for s = infer_buffer (version_in s) (words_in s) (entry_in s) (blank (version_in s) (words_in s))

-- the container of version, entry set, words and annotations
unfoldable pub made : List ℕ → List ℕ
made s = container_bytes (version_in s) (entry_in s) (words_in s) (notes_for s)

-- the bytes are all that were read
pub record Read (input : Input) (s : List ℕ) : Type 0 where
  pub all : input ≡ Ok (length s)
  pub few : length s ≤ read_length

-- they are parted into version, entry set and words
pub record Parted (s : List ℕ) (v : ℕ) (e : Halves) (w : List ℕ) : Type 0 where
  pub long : front_length ≤ length s
  pub version : v ≡ version_in s
  pub entry : e ≡ entry_in s
  pub words : w ≡ words_in s
