-- What FADD.f32 owes to whoever lays a log beside it (02, Item 8; 002, FADD and Clamp), asked of any function on patterns.
use Rattle.std.specs.Prelude.{◌≡◌, Bool, true, false, ℕ, ◌^◌, ◌<◌, pos, T, Float}
use Rattle.std.specs.Float.{nan, inf, fin, binary32}
use Rattle.std.specs.Float.Ieee.{neg, lt, le, of_bits, nan_bits}
use Rattle.fadd.specs.Single.{zero, one, minus_one}
use Rattle.fadd.specs.Rounding.{Sum}

-- from negate and absolute of source 0, the same of source 1, the clamp modifier's value and the sources' patterns to the pattern that is recorded
abbrev pub Addition : Type 0
Addition = Bool → Bool → Bool → Bool → ℕ → ℕ → ℕ → ℕ

-- IEEE 754's absolute value; its negation is `neg`
unfoldable pub absolute : Float → Float
absolute nan = nan
absolute (inf s) = inf false
absolute (fin s m e) = fin false m e

-- -0.0
abbrev pub minus_zero : Float
minus_zero = fin true 0 (pos 0)

-- a modifier acts where it is set
abbrev pub modified : Bool → (Float → Float) → Float → Float
modified true f x = f x
modified false f x = x

-- the number that a source adds: that of its pattern, "absolute before negate"
abbrev pub operand : Bool → Bool → ℕ → Float
operand negate abs b = modified negate neg (modified abs absolute (of_bits binary32 b))

-- what is recorded of the number x: a pattern of 32 bits that stands for x, and for a not-a-number the one that 02 names
pub record Records (r : ℕ) (x : Float) : Type 0 where
  pub width : r < 2 ^ 32
  pub value : of_bits binary32 r ≡ x
  pub named : x ≡ nan → r ≡ 0x7FC00000

-- what is recorded of the sum x after a clamp from l up to h
pub record Clamps (l h x : Float) (r : ℕ) : Type 0 where
  -- between the bounds it is the sum itself
  pub inside : T (lt l x) → T (lt x h) → Records r x
  -- at the lower bound or below, that bound; both zeros are at a bound of 0
  pub low : T (le x l) → Records r l
  -- at the upper bound or above, that bound
  pub high : T (le h x) → Records r h
  -- "a not-a-number gives the lower bound"
  pub none : x ≡ nan → Records r l
  -- so that no clamp leaves a not-a-number
  pub number : ¬ (of_bits binary32 r ≡ nan)

-- what is recorded of two sources under each clamp, all of the one sum x
pub record Added (F : Addition) (n0 a0 n1 a1 : Bool) (a b : ℕ) : Type 0 where
  pub x : Float
  pub sum : Sum (operand n0 a0 a) (operand n1 a1 b) x
  -- none, clamp_0_inf, clamp_m1_1 and clamp_0_1
  pub plain : Records (F n0 a0 n1 a1 0 a b) x
  pub positive : Clamps zero (inf false) x (F n0 a0 n1 a1 1 a b)
  pub signed : Clamps minus_one one x (F n0 a0 n1 a1 2 a b)
  pub unit : Clamps zero one x (F n0 a0 n1 a1 3 a b)
  -- "-0 gives 0 if that bound is 0", and stays -0 under clamp_m1_1
  pub of_minus_zero : x ≡ minus_zero → (F n0 a0 n1 a1 1 a b ≡ 0x00000000) × (F n0 a0 n1 a1 2 a b ≡ 0x80000000) × (F n0 a0 n1 a1 3 a b ≡ 0x00000000)

-- 002's listed identities, in its order. -0.0 is had as the sum of -0.0 and -0.0, and a not-a-number as the sum of any pattern p of one, of either
-- sign, and any other source.
pub record Listed (F : Addition) : Type 0 where
  -- clamp(-0.0, 0.0, 1.0) = +0.0
  pub minus_zero_0_1 : F false false false false 3 0x80000000 0x80000000 ≡ 0x00000000
  -- clamp(-NaN, 0.0, 1.0) = +0.0, clamp(NaN, 0.0, 1.0) = +0.0
  pub nan_0_1 : (p b : ℕ) → p < 2 ^ 32 → b < 2 ^ 32 → T (nan_bits binary32 p) → F false false false false 3 p b ≡ 0x00000000
  -- clamp(-0.0, -1.0, 1.0) = -0.0
  pub minus_zero_m1_1 : F false false false false 2 0x80000000 0x80000000 ≡ 0x80000000
  -- clamp(NaN, -1.0, 1.0) = -1.0, clamp(-NaN, -1.0, 1.0) = -1.0
  pub nan_m1_1 : (p b : ℕ) → p < 2 ^ 32 → b < 2 ^ 32 → T (nan_bits binary32 p) → F false false false false 2 p b ≡ 0xBF800000
  -- max(NaN, 0.0) = +0.0, max(-NaN, 0.0) = +0.0
  pub nan_0_inf : (p b : ℕ) → p < 2 ^ 32 → b < 2 ^ 32 → T (nan_bits binary32 p) → F false false false false 1 p b ≡ 0x00000000
  -- max(-0.0, 0.0) = +0.0
  pub minus_zero_0_inf : F false false false false 1 0x80000000 0x80000000 ≡ 0x00000000

-- the function keeps all of it, for every two patterns of 32 bits, every modifier and every clamp
pub record Adds (F : Addition) : Type 0 where
  pub added : (n0 a0 n1 a1 : Bool) (a b : ℕ) → a < 2 ^ 32 → b < 2 ^ 32 → Added F n0 a0 n1 a1 a b
  pub listed : Listed F
