-- Runs of bits: where a number stands in a word, and how a word is put together from numbers and taken apart.
use Rattle.std.specs.Prelude.{Bool, true, false, ◌&&◌, ◌||◌, List, [], ◌∷◌, ℕ, ◌+◌, ◌-◌, ◌*◌, ◌/◌, ◌%◌, ◌^◌, leb, ltb, eqb}

-- the first where the test passes, else the second
abbrev pub choose : {A : Type 0} → Bool → A → A → A
choose true x y = x
choose false x y = y

-- `width` bits of the word `w`, from bit `low` up; bit 0 is the lowest
abbrev pub bits : ℕ → ℕ → ℕ → ℕ
bits w low width = w / 2 ^ low % 2 ^ width

-- the place of one number in a word; a number of width 0 has no place there, and can only be 0
pub record Slot : Type 0 where
  pub low : ℕ
  pub width : ℕ

abbrev pub slot : ℕ → ℕ → Slot
slot l n = record { low = l; width = n }

-- the numbers at the slots
unfoldable pub split : List Slot → ℕ → List ℕ
split [] w = []
split (s ∷ ss) w = bits w s.low s.width ∷ split ss w

-- the word with these numbers at the slots, and 0 elsewhere, where the numbers have room and the slots stand apart
unfoldable pub join : List Slot → List ℕ → ℕ
join [] vs = 0
join (s ∷ ss) [] = 0
join (s ∷ ss) (v ∷ vs) = v * 2 ^ s.low + join ss vs

-- there is a number for each slot, and it has room there
unfoldable pub fit : List Slot → List ℕ → Bool
fit [] [] = true
fit [] (v ∷ vs) = false
fit (s ∷ ss) [] = false
fit (s ∷ ss) (v ∷ vs) = ltb v (2 ^ s.width) && fit ss vs

-- bit b lies in the slot
abbrev pub inside : Slot → ℕ → Bool
inside s b = leb s.low b && ltb b (s.low + s.width)

-- bit b lies in one of the slots
unfoldable pub assigned : List Slot → ℕ → Bool
assigned [] b = false
assigned (s ∷ ss) b = inside s b || assigned ss b

-- the slots that have a width stand one above the other, from bit `pos` up, and end by bit 64
unfoldable pub apart : ℕ → List Slot → Bool
apart pos [] = leb pos 64
apart pos (s ∷ ss) = elim (eqb s.width 0) [ true ↦ apart pos ss | false ↦ leb pos s.low && apart (s.low + s.width) ss ]

-- all bits of each slot
unfoldable pub ones : List Slot → List ℕ
ones [] = []
ones (s ∷ ss) = (2 ^ s.width - 1) ∷ ones ss

-- the word in which a bit is 1 where it lies in a slot
abbrev pub mask : List Slot → ℕ
mask ss = join ss (ones ss)
