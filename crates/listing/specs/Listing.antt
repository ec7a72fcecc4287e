-- What the lister writes for a container's bytes (01, The lister).
use Rattle.std.specs.Prelude.{List, [], ◌∷◌, ◌++◌, ℕ, zero, suc, ◌+◌, ◌*◌}
use Rattle.container.specs.Formats.{most_instructions}
use Rattle.bits.specs.Bytes.{little}
use Rattle.bits.specs.Outcomes.{gives, refuses}
use Rattle.rows.specs.Names.{name_width}
use Rattle.reading.specs.Reader.{read_number}
use Rattle.container.specs.Container.{count_of, words_of, eight}
use Rattle.safety.specs.Verdict.{Judgement, verdict_of, all_read}
use Rattle.text.specs.Text.{space, line_feed, decimal, hex}
use Rattle.text.specs.Name.{name_in}
use Rattle.verdictline.specs.VerdictLine.{verdict_line, longest_verdict}

-- the line of the word w at index i: the index in four decimal digits, the word in 16 hexadecimal digits and the name, with a space between,
-- and a line feed at the end
unfoldable pub line : ℕ → ℕ → List ℕ
line i w = decimal 4 i ++ (space ∷ hex 16 w) ++ (space ∷ name_in (read_number w)) ++ (line_feed ∷ [])

-- the word at index i of some words
abbrev pub word_in : List ℕ → ℕ → ℕ
word_in words i = little (eight words i)

-- the lines of the first n words
unfoldable pub lines : List ℕ → ℕ → List ℕ
lines words zero = []
lines words (suc n) = lines words n ++ line n (word_in words n)

-- a text that is there only where all words read
abbrev pub where_read : Judgement → List ℕ → List ℕ
where_read (gives _) text = text
where_read (refuses _) text = []

-- the lines, where all words read, and then the verdict
unfoldable pub listing : List ℕ → List ℕ
listing s = where_read (all_read s) (lines (words_of s) (count_of s)) ++ verdict_line (verdict_of s)

-- the most bytes that a line has
abbrev pub longest_line : ℕ
longest_line = 4 + 1 + 16 + 1 + name_width + 1

-- and that any listing has
abbrev pub longest_listing : ℕ
longest_listing = longest_line * most_instructions + longest_verdict
