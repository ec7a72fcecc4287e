-- What the rows on whole numbers give, on numbers below 2 ^ 32 (02, Item 8, "Rows, as 002 describes them").
use Rattle.std.specs.Prelude.{Bool, cond, not, ℕ, zero, suc, ◌+◌, ◌-◌, ◌*◌, ◌/◌, ◌%◌, ◌^◌, eqb, leb}
use Rattle.std.specs.Int.Bits.{bit_and, bit_or}
use Rattle.std.specs.Int.Count.{count_leading_zeros, ones}

-- NOT_OLD.i32, "Bitwise complement"
abbrev pub complement : ℕ → ℕ
complement x = 2 ^ 32 - 1 - x

-- CLZ.u32, "Count leading zeroes": the zeros above the highest 1; "CLZ of 0 is 32" (02, Item 8)
abbrev pub clz : ℕ → ℕ
clz x = count_leading_zeros 32 x

-- POPCOUNT.i32, "Population count": how many bits are 1
abbrev pub popcount : ℕ → ℕ
popcount x = ones x

-- the k lowest bits of x, the lowest of them made the highest
unfoldable pub reversed : ℕ → ℕ → ℕ
reversed zero x = 0
reversed (suc k) x = x % 2 * 2 ^ k + reversed k (x / 2)

-- BITREV.i32, "Bitwise reverse"
abbrev pub bitrev : ℕ → ℕ
bitrev x = reversed 32 x

-- The condition of MUX on its mask, by the modifier's value (002, Mux): neg, 0, "checks the sign bit"; int_zero, 1, "compares to 0x00000000"; fp_zero, 2,
-- "compares to ±0.0", by which "MUX's fp_zero means either zero" (02, Item 8).
abbrev pub passes : ℕ → ℕ → Bool
passes mode m = cond (eqb mode 0) (leb (2 ^ 31) m) (cond (eqb mode 1) (eqb m 0) (eqb (m % 2 ^ 31) 0))

-- MUX.i32, of the modifier's value, A, B and the mask: "If true, A is chosen, else B is chosen"; bit, 3, "calculates (A & mask) | (B & ~mask)"
unfoldable pub mux : ℕ → ℕ → ℕ → ℕ → ℕ
mux mode a b m = cond (eqb mode 3) (bit_or (bit_and a m) (bit_and b (complement m))) (cond (passes mode m) a b)

-- "BRANCHZ jumps on nonzero, or on zero with eq, as 002's prose says; its formula is for eq" (02, Item 8)
unfoldable pub jumps : Bool → ℕ → Bool
jumps eq s = cond eq (eqb s 0) (not (eqb s 0))

-- ---- for what the laws of the rows say, bit by bit

-- bit i of x; bit 0 is the lowest
abbrev pub bit : ℕ → ℕ → ℕ
bit x i = x / 2 ^ i % 2

-- the sum of the first k numbers that f gives
unfoldable pub total : (ℕ → ℕ) → ℕ → ℕ
total f zero = 0
total f (suc k) = total f k + f k
