-- The container (the paper's parcel) and where its parts stand (01, The parcel; 02, Item 7): the mark, a version of 16 bits, a byte 0, a
-- count n of 16 bits, the entry set, n words, and n annotations (the paper's notes). The lowest byte of a number stands first.
use Rattle.std.specs.Prelude.{Bool, ◌&&◌, List, ℕ, ◌+◌, ◌*◌, eqb, get_or, take, drop}
use Rattle.bits.specs.Bytes.{little}
use Rattle.bits.specs.Halves.{halves}
use Rattle.bits.specs.declared.halves.Halves.{Halves}
use Rattle.container.specs.Formats.{header_length, annotation_length, high_offset, word_length}

-- k bytes of s, from `start` on
abbrev pub part : List ℕ → ℕ → ℕ → List ℕ
part s start k = take k (drop start s)

-- the number that they give, the lowest byte first
abbrev pub number : List ℕ → ℕ → ℕ → ℕ
number s start k = little (part s start k)

-- bytes 0 to 2 are the mark, the letters `VSP` in ASCII
abbrev pub marked : List ℕ → Bool
marked s = eqb (get_or s 0 0) 86 && (eqb (get_or s 1 0) 83 && eqb (get_or s 2 0) 80)

-- the version: bytes 3 and 4
unfoldable pub version_of : List ℕ → ℕ
version_of s = number s 3 2

-- byte 5, which must be 0
abbrev pub zero_of : List ℕ → ℕ
zero_of s = get_or s 5 0

-- the count n: bytes 6 and 7
unfoldable pub count_of : List ℕ → ℕ
count_of s = number s 6 2

-- the set of halves that stands at `start` in a version: of the low halves, and of the high ones
abbrev pub halves_at : ℕ → List ℕ → ℕ → Halves
halves_at v s start = halves (number s start 8) (number s (start + high_offset v) 8)

-- the entry set, from byte 8 on
unfoldable pub entry_of : List ℕ → Halves
entry_of s = halves_at (version_of s) s 8

-- where the word at index i starts, and where the annotations of n instructions start
abbrev pub word_start : ℕ → ℕ → ℕ
word_start v i = header_length v + word_length * i

abbrev pub annotations_start : ℕ → ℕ → ℕ
annotations_start v n = header_length v + word_length * n

-- the n words
unfoldable pub words_of : List ℕ → List ℕ
words_of s = part s (header_length (version_of s)) (word_length * count_of s)

-- the n annotations
unfoldable pub annotations_of : List ℕ → List ℕ
annotations_of s = part s (annotations_start (version_of s) (count_of s)) (annotation_length (version_of s) * count_of s)

-- the eight bytes of the word at index i of some words
abbrev pub eight : List ℕ → ℕ → List ℕ
eight s i = take 8 (drop (8 * i) s)
