-- Which numbers and which patterns are not-a-numbers. Assumes nothing.
use mathlib.Core.Path.{◌≡◌, refl, sym, ◌∙◌, subst}
use mathlib.Core.Bool.{Bool, true, not, false≢true}
use Prim.Native.Nat.{ℕ, ◌%◌, ◌<◌, ◌≤◌}
use lib.Dec.{T}
use lib.Ieee.{Float, nan, inf, fin, binary32, is_nan, nan_bits, of_bits, to_bits}
use lib.Ieee.Bits.{nan_bits_is, nan_bits_above}
use Rattle.fadd.specs.Single.{recorded}
use borrow.Author.Tests.{lt-ltb, le-ltb}

pub nan_only : (x : Float) → is_nan x ≡ true → x ≡ nan
unfolding is_nan
nan_only nan h = refl
nan_only (inf s) h = absurd (false≢true h)
nan_only (fin s m e) h = absurd (false≢true h)

-- with its sign bit off, a not-a-number's pattern is above infinity's, 7F800000
pub nan_above : (b : ℕ) → 2139095040 < b % 2147483648 → of_bits binary32 b ≡ nan
nan_above b h = nan_only (of_bits binary32 b) (sym (nan_bits_is binary32 b) ∙ nan_bits_above binary32 b ∙ lt-ltb _ _ h)

pub number_below : (b : ℕ) → b % 2147483648 ≤ 2139095040 → T (not (nan_bits binary32 b))
number_below b h = subst (λ (t : Bool). T (not t)) (sym (nan_bits_above binary32 b ∙ le-ltb _ _ h)) tt

-- the rule for a not-a-number is the toolchain's own
pub recorded_is : (x : Float) → recorded x ≡ to_bits binary32 x
unfolding recorded to_bits
recorded_is nan = refl
recorded_is (inf s) = refl
recorded_is (fin s m e) = refl
