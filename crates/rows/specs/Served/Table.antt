-- The rows in numbers, as the code's table has them.
use Rattle.std.specs.Prelude.{Bool, true, ◌&&◌, ◌||◌, not, List, [], ◌∷◌, map, ℕ, zero, suc, ◌+◌, ◌-◌, ◌*◌, ◌/◌, ◌%◌, ◌^◌}
use Rattle.bits.specs.Fields.{choose, slot, inside, assigned}
use Rattle.rows.specs.Kinds.{Kind, width, about, legal_value}
use Rattle.rows.specs.Rows.{Row, rows}
use Rattle.rows.specs.Layout.{Place, modifier_place, kind_at, low, modifier_places, slots}
use Rattle.rows.specs.Sources.{is_reserved, special_at}
use Rattle.rows.specs.declared.table.Row.{Row as Words}

-- the set of the numbers below n that pass a test
abbrev pub set_of : (ℕ → Bool) → ℕ → ℕ
set_of test zero = 0
set_of test (suc n) = choose (test n) (2 ^ n) 0 + set_of test n

-- a test of all numbers below n
abbrev pub upto : ℕ → (ℕ → Bool) → Bool
upto zero t = true
upto (suc n) t = t n && upto n t

abbrev pub one_if : Bool → ℕ
one_if t = choose t 1 0

-- numbers in a row, the first in the lowest digit to the base b
abbrev pub pack : ℕ → List ℕ → ℕ
pack b [] = 0
pack b (x ∷ xs) = x + b * pack b xs

-- the modifiers of a row, by index
abbrev pub kind_of : Row → ℕ → Kind
kind_of r j = kind_at r (modifier_place j)

-- bit b is the same in all words of a row: it belongs to an opcode, or to no field
abbrev pub fixed_bit : Row → ℕ → Bool
fixed_bit r b = not (assigned (slots r) b) || (inside (slot 48 9) b || inside (slot r.second_low r.second_width) b)

-- what those bits are
abbrev pub fixed : Row → ℕ
fixed r = r.opcode * 2 ^ 48 + r.second * 2 ^ r.second_low

-- the sources' bits; whether there is an offset; where the secondary opcode stands; whether there is no destination
abbrev pub shape : Row → ℕ
shape r =
    2 ^ (r.sources * 8) - 1 + 2 ^ 32 * one_if r.offset + 2 ^ 33 * r.second_low + 2 ^ 39 * r.second_width
    + 2 ^ 47 * one_if (not r.destination)

-- the modifiers' widths, four bits each
abbrev pub widths : Row → ℕ
widths r = pack 16 (map (λ (p : Place). width (kind_at r p)) modifier_places)

-- x is illegal as bits 26 to 29 of a row's word, and as bits 36 to 39
abbrev pub illegal_26 : Row → ℕ → Bool
illegal_26 r x = not (legal_value (kind_of r 4) (x % 2 ^ width (kind_of r 4)) && legal_value (kind_of r 5) (x / 4 % 2 ^ width (kind_of r 5)))

abbrev pub illegal_36 : Row → ℕ → Bool
illegal_36 r x =
    not (legal_value (kind_of r 10) (x % 2 ^ width (kind_of r 10)) && legal_value (kind_of r 11) (x / 2 % 2 ^ width (kind_of r 11)))

-- the word with the defaults of a row's modifiers
abbrev pub default_word : Row → List Place → ℕ
default_word r [] = 0
default_word r (p ∷ ps) = (about (kind_at r p)).default * 2 ^ low p + default_word r ps

-- what modifiers may not hold; from bit 32 up their defaults, as they stand in a word from bit 24 up
abbrev pub limits : Row → ℕ
limits r = set_of (illegal_26 r) 16 + 2 ^ 16 * set_of (illegal_36 r) 16 + 2 ^ 32 * (default_word r modifier_places / 2 ^ 24)

-- not every number that has room is legal
abbrev pub restricted : Kind → Bool
restricted k = not (upto (2 ^ width k) (legal_value k))

-- the bits that may not be 1 together with the next one: of the modifiers at bits 8 and 32
abbrev pub pairs : Row → ℕ
pairs r = 2 ^ 8 * one_if (restricted (kind_of r 0)) + 2 ^ 33 * one_if (restricted (kind_of r 7))

-- a row in numbers
abbrev pub row_words : Row → Words
row_words r =
    record {
      opcode = r.opcode;
      second = r.second;
      fixed_bits = set_of (fixed_bit r) 64;
      shape = shape r;
      modifiers = widths r;
      limits = limits r;
      pairs = pairs r;
    }

-- the numbers of each row
unfoldable pub table : List Words
table = map row_words rows

-- the values of a page's enumeration that are not reserved, as a set
abbrev pub page_word : ℕ → ℕ
page_word p = set_of (λ (i : ℕ). not (is_reserved (special_at p i))) 16
