-- FADD.f32 on bit patterns of single-precision numbers, for every pattern (02, Item 8; 002, FADD and Clamp).
-- `of_bits` is the number that a pattern stands for, and reads each pattern of a not-a-number as the one `nan`; `to_bits` is a number's pattern.
use Rattle.std.specs.Prelude.{Bool, true, false, cond, ℕ, ◌+◌, ◌%◌, ◌^◌, pos, eqb, Float}
use Rattle.std.specs.Float.{nan, inf, fin, binary32}
use Rattle.std.specs.Float.Ieee.{add, lt, of_bits, to_bits}

-- a source's `absolute` on its bits: the sign bit, the highest of 32, becomes 0
unfoldable pub cleared : Bool → ℕ → ℕ
cleared absolute b = cond absolute (b % 2 ^ 31) b

-- a source's `negate` on its bits: the sign bit is the other one
unfoldable pub flipped : Bool → ℕ → ℕ
flipped negate b = cond negate ((b + 2 ^ 31) % 2 ^ 32) b

-- max (x, l) of 002's Clamp, for a lower bound l: x where it is above l, else l. "The other operand if one operand is NaN", and "-0 < +0": a
-- not-a-number, and -0 where l is 0, are not above l.
unfoldable pub larger : Float → Float → Float
larger x l = cond (lt l x) x l

-- min (x, h) of 002's Clamp, for an upper bound h and an x that is a number: x where it is below h, else h
unfoldable pub smaller : Float → Float → Float
smaller x h = cond (lt x h) x h

-- 0.0, 1.0 and -1.0
abbrev pub zero : Float
zero = fin false 0 (pos 0)

abbrev pub one : Float
one = fin false 1 (pos 0)

abbrev pub minus_one : Float
minus_one = fin true 1 (pos 0)

-- the bounds of the clamp modifier's values 1 to 3 (002, Clamp): clamp_0_inf, clamp_m1_1, clamp_0_1
abbrev pub lower : ℕ → Float
lower c = cond (eqb c 2) minus_one zero

abbrev pub upper : ℕ → Float
upper c = cond (eqb c 1) (inf false) one

-- 002's clamp (x, l, h) = min (max (x, l), h); value 0 of the modifier is the identity
unfoldable pub clamped : ℕ → Float → Float
unfolding larger smaller
clamped c x = cond (eqb c 0) x (smaller (larger x (lower c)) (upper c))

-- what is recorded of a number: its pattern, and of a not-a-number 7FC00000 (02, Item 8)
unfoldable pub recorded : Float → ℕ
recorded nan = 0x7FC00000
recorded (inf s) = to_bits binary32 (inf s)
recorded (fin s m e) = to_bits binary32 (fin s m e)

-- "one single-precision addition rounded to nearest, ties to even, then the clamp" (02, Item 8), of two sources as their modifiers leave them
unfoldable pub sum : ℕ → ℕ → ℕ → ℕ
unfolding clamped recorded
sum c a b = recorded (clamped c (add binary32 (of_bits binary32 a) (of_bits binary32 b)))

-- "FADD takes absolute before negate" (02, Item 8): negate and absolute of source 0, of source 1, the clamp, the sources' patterns
unfoldable pub fadd : Bool → Bool → Bool → Bool → ℕ → ℕ → ℕ → ℕ
unfolding cleared flipped sum
fadd n0 a0 n1 a1 c a b = sum c (flipped n0 (cleared a0 a)) (flipped n1 (cleared a1 b))
