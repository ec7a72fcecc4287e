-- The container (the paper's parcel) of version 1 and where its parts stand (01, The parcel): the mark, a version of 16 bits, a byte 0, a
-- count n of 16 bits, an entry set of 64 bits, n words, and n annotations (the paper's notes) of 64 bits. The lowest byte of a number stands
-- first. What stands before the entry set is the same in any version.
use Rattle.std.specs.Prelude.{List, ℕ, ◌+◌, ◌*◌}
use Rattle.container.specs.Container.{part, number, count_of}

-- the bytes of a header, of a word and of an annotation
abbrev pub header_length : ℕ
header_length = 16

abbrev pub word_length : ℕ
word_length = 8

abbrev pub annotation_length : ℕ
annotation_length = 8

-- the version that there is
abbrev pub version : ℕ
version = 1

-- the largest count; the smallest is 1
abbrev pub most_instructions : ℕ
most_instructions = 2048

-- how long a container of n instructions is: 16 + 16n
abbrev pub container_length : ℕ → ℕ
container_length n = header_length + (word_length + annotation_length) * n

-- the entry set: bytes 8 to 15
unfoldable pub entry_of : List ℕ → ℕ
entry_of s = number s 8 8

-- where the annotations of n instructions start
abbrev pub annotations_start : ℕ → ℕ
annotations_start n = header_length + word_length * n

-- the n words
unfoldable pub words_of : List ℕ → List ℕ
words_of s = part s header_length (word_length * count_of s)

-- the n annotations
unfoldable pub annotations_of : List ℕ → List ℕ
annotations_of s = part s (annotations_start (count_of s)) (annotation_length * count_of s)
