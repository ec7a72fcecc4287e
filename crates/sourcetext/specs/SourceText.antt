-- The text for what a source byte means, in the syntax of Mesa's Valhall disassembler.
use Rattle.std.specs.Prelude.{List, ◌++◌, ℕ, ◌+◌, ◌*◌}
use Rattle.rows.specs.Names.{ascii}
use Rattle.rows.specs.Sources.{Part, low_word, high_word, Meaning, register_read, register_released, uniform, immediate, special, refused}
use Rattle.text.specs.Text.{number_text}
use Rattle.fieldtext.specs.Enumerations.{special_text, value_width, special_width}

-- a special constant is two words (02, Item 2), which Mesa's text calls w0 and w1
abbrev pub part_text : Part → List ℕ
part_text low_word = ascii ".w0"
part_text high_word = ascii ".w1"

-- what a source byte means: a register, with ^ where it is released; a uniform; an immediate in hexadecimal; a word of a special constant
abbrev pub meaning_text : Meaning → List ℕ
meaning_text (register_read r) = ascii "r" ++ number_text 10 3 r
meaning_text (register_released r) = ascii "^r" ++ number_text 10 3 r
meaning_text (uniform u) = ascii "u" ++ number_text 10 5 u
meaning_text (immediate v) = ascii "0x" ++ number_text 16 8 v
meaning_text (special s p) = special_text s ++ part_text p
meaning_text refused = ascii "?"

-- no source has more bytes, with its signs and its swizzle
abbrev pub longest_source : ℕ
longest_source = special_width + 3 + 2 * value_width + 3 * value_width
