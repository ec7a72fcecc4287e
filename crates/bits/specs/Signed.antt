-- Two's complement: the numbers from -h to h - 1 as numbers below 2h.
use Rattle.std.specs.Prelude.{ℕ, ◌+◌, ◌-◌, ltb, ℤ, pos, negsuc}
use Rattle.bits.specs.Fields.{choose}

-- the number below 2h that stands for z; 2h itself, which no field of that width has room for, where z is out of range
unfoldable pub unsigned : ℕ → ℤ → ℕ
unsigned h (pos n) = choose (ltb n h) n (h + h)
unsigned h (negsuc n) = choose (ltb n h) (h + h - 1 - n) (h + h)

-- what a number below 2h stands for
unfoldable pub signed : ℕ → ℕ → ℤ
signed h n = choose (ltb n h) (pos n) (negsuc (h + h - 1 - n))
