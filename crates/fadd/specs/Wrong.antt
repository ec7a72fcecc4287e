-- Wrong additions that the promise must exclude (02, Item 8).
use Rattle.std.specs.Prelude.{◌-◌, ◌%◌, cond, eqb}
use Rattle.std.specs.Float.{binary32}
use Rattle.std.specs.Float.Ieee.{to_bits}
use Rattle.fadd.specs.Single.{cleared, flipped, upper, sum, fadd}
use Rattle.fadd.specs.Promises.{Addition}

-- negates before it takes the absolute value: -1.0 with both is -1.0, and here 1.0
unfoldable pub negate_first : Addition
unfolding sum
negate_first n0 a0 n1 a1 c a b = sum c (cleared a0 (flipped n0 a)) (cleared a1 (flipped n1 b))

-- clamps no not-a-number
unfoldable pub nan_through : Addition
unfolding fadd
nan_through n0 a0 n1 a1 c a b = fadd n0 a0 n1 a1 (cond (eqb (fadd n0 a0 n1 a1 0 a b) 0x7FC00000) 0 c) a b

-- gives the upper bound for a not-a-number
unfoldable pub nan_up : Addition
unfolding fadd
nan_up n0 a0 n1 a1 c a b = cond (eqb (fadd n0 a0 n1 a1 0 a b) 0x7FC00000) (to_bits binary32 (upper c)) (fadd n0 a0 n1 a1 c a b)

-- keeps -0.0 under every clamp
unfoldable pub minus_zero_kept : Addition
unfolding fadd
minus_zero_kept n0 a0 n1 a1 c a b = fadd n0 a0 n1 a1 (cond (eqb (fadd n0 a0 n1 a1 0 a b) 0x80000000) 0 c) a b

-- records another not-a-number
unfoldable pub other_nan : Addition
unfolding fadd
other_nan n0 a0 n1 a1 c a b = cond (eqb (fadd n0 a0 n1 a1 c a b) 0x7FC00000) 0x7FE00000 (fadd n0 a0 n1 a1 c a b)

-- leaves the last digit of a sum out: 1.0 and 2 ^ -23 make 3F800001, and here 1.0
unfoldable pub digit_lost : Addition
unfolding fadd
digit_lost n0 a0 n1 a1 c a b = let r = fadd n0 a0 n1 a1 c a b in r - r % 2
