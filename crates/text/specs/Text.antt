-- Numbers as text, in ASCII, and text at the front of a buffer.
use Rattle.std.specs.Prelude.{◌≡◌, List, [], ◌∷◌, ◌++◌, ℕ, zero, suc, ◌+◌, ◌/◌, ◌%◌, ltb, length, take, drop}
use Rattle.bits.specs.Fields.{choose}
use Rattle.rows.specs.Names.{before_space}

abbrev pub space : ℕ
space = 32

abbrev pub line_feed : ℕ
line_feed = 10

-- a digit of a base up to 16: 0 to 9, then A to F in upper case
abbrev pub digit : ℕ → ℕ
digit d = choose (ltb d 10) (48 + d) (55 + d)

-- the k lowest digits of n in a base, the highest first
unfoldable pub digits : ℕ → ℕ → ℕ → List ℕ
digits base zero n = []
digits base (suc k) n = digits base k (n / base) ++ (digit (n % base) ∷ [])

abbrev pub decimal : ℕ → ℕ → List ℕ
decimal k n = digits 10 k n

abbrev pub hex : ℕ → ℕ → List ℕ
hex k n = digits 16 k n

-- how many digits of n are written in a base: all but the zeros in front, and not more than `most`
unfoldable pub digit_count : ℕ → ℕ → ℕ → ℕ
digit_count base zero n = 0
digit_count base (suc most) n = choose (ltb n base) 1 (suc (digit_count base most (n / base)))

-- a number without zeros in front of it; of one that has more than `most` digits the lowest of them
unfoldable pub number_text : ℕ → ℕ → ℕ → List ℕ
number_text base most n = digits base (digit_count base most n) n

-- what stands before the first space of a text that is filled with spaces
unfoldable pub unpadded : List ℕ → List ℕ
unpadded s = take (before_space s) s

-- the text stands at the front of a buffer, which is otherwise as before, and r is how many bytes it has
pub record Put (text before after : List ℕ) (r : ℕ) : Type 0 where
  pub counts : r ≡ length text
  pub fills : after ≡ text ++ drop (length text) before
