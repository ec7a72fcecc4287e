-- Sets of numbers below 64, as 64-bit words: r is in the set where bit r is 1.
use Rattle.std.specs.Prelude.{◌≡◌, Bool, ℕ, zero, suc, ◌-◌, ◌/◌, ◌%◌, ◌^◌, eqb, ltb}
use Rattle.std.specs.Int.Bits.{bit_and, bit_or}
use Rattle.bits.specs.Fields.{choose}

-- r is in the set
unfoldable pub Has : ℕ → ℕ → Type 0
Has s r = s / 2 ^ r % 2 ≡ 1

-- the same as a test
abbrev pub has : ℕ → ℕ → Bool
has s r = eqb (s / 2 ^ r % 2) 1

-- the members of a that are not in b
unfoldable pub minus : ℕ → ℕ → ℕ
minus a b = a - bit_and a b

-- the members of a or b
abbrev pub union : ℕ → ℕ → ℕ
union a b = bit_or a b

-- the members of both
abbrev pub intersection : ℕ → ℕ → ℕ
intersection a b = bit_and a b

-- the set of r alone; the empty set where r is no number below 64
abbrev pub single : ℕ → ℕ
single r = choose (ltb r 64) (2 ^ r) 0

-- the lowest number that passes a test, among the n from b up; b + n where none does
unfoldable pub lowest_from : (ℕ → Bool) → ℕ → ℕ → ℕ
lowest_from t zero b = b
lowest_from t (suc n) b = choose (t b) b (lowest_from t n (suc b))

-- the lowest member of a set, or 64 where it has none
abbrev pub lowest : ℕ → ℕ
lowest s = lowest_from (has s) 64 0
