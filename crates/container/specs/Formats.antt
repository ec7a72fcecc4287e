-- The formats of a container (the paper's parcel), by version (01, The parcel; 02, Item 7): the one description of them.
use Rattle.std.specs.Prelude.{Bool, ◌||◌, ℕ, ◌+◌, ◌*◌, eqb}
use Rattle.bits.specs.Fields.{choose}
use Rattle.container.specs.declared.format.Format.{Format}

-- the versions that there are
unfoldable pub known : ℕ → Bool
known v = eqb v 1 || eqb v 2

-- how long a header and an annotation (the paper's note) are in bytes; how far after the set of the low halves that of the high halves
-- stands, in both; and the largest count. In version 1 a set stands for both halves, so that of the high halves is the same.
abbrev pub version_1 : Format
version_1 = record { header = 16; annotation = 8; high = 0; most = 2048 }

abbrev pub version_2 : Format
version_2 = record { header = 24; annotation = 16; high = 8; most = 2048 }

-- the format of a version; for one that there is not, that of version 1
unfoldable pub format_of : ℕ → Format
format_of v = choose (eqb v 2) version_2 version_1

abbrev pub header_length : ℕ → ℕ
header_length v = (format_of v).header

abbrev pub annotation_length : ℕ → ℕ
annotation_length v = (format_of v).annotation

abbrev pub high_offset : ℕ → ℕ
high_offset v = (format_of v).high

abbrev pub most_of : ℕ → ℕ
most_of v = (format_of v).most

-- the bytes of a word, in any version
abbrev pub word_length : ℕ
word_length = 8

-- how long a container of n instructions is
abbrev pub container_length : ℕ → ℕ → ℕ
container_length v n = header_length v + (word_length + annotation_length v) * n

-- no version has a shorter header, nor more instructions, nor a longer container
abbrev pub shortest_header : ℕ
shortest_header = 16

abbrev pub most_instructions : ℕ
most_instructions = 2048

abbrev pub longest_container : ℕ
longest_container = 24 + (8 + 16) * most_instructions
