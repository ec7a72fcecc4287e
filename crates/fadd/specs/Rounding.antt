-- "One single-precision addition rounded to nearest, ties to even" (02, Item 8), said of the exact sum and of all numbers that single precision has,
-- as IEEE 754 says it. The library's `add`, which Single.antt uses, is such a sum (proofs/RoundingLaws.antt, `add_sums`); `Float` and `HasValue` are
-- the library's too. Sizes are counted in steps of 2 ^ -149, the smallest single-precision number above 0.
use Rattle.std.specs.Prelude.{◌≡◌, Bool, false, cond, ◌⊎◌, ℕ, ◌+◌, ◌-◌, ◌*◌, ◌^◌, ◌≤◌, ◌<◌, ltb, Float}
use Rattle.std.specs.Bool.{beq}
use Rattle.std.specs.Float.{nan, inf, fin}
use Rattle.std.specs.Float.Ieee.{up, down}
use Rattle.std.specs.Float.Ieee.Exact.{HasValue}

-- how far two numbers are apart
abbrev pub apart : ℕ → ℕ → ℕ
apart a b = (a - b) + (b - a)

-- a size of 24 binary digits at most, and zeros after them: what single precision holds, but for the end of its range
pub record Held (g : ℕ) : Type 0 where
  pub digits : ℕ
  pub zeros : ℕ
  pub short : digits < 2 ^ 24
  pub is : g ≡ digits * 2 ^ zeros

-- The last of a size's 24 digits is 0: they are twice a number below 2 ^ 23. They begin with a 1 where zeros follow, so that they are all 24.
pub record Even (g : ℕ) : Type 0 where
  pub half : ℕ
  pub zeros : ℕ
  pub short : half < 2 ^ 23
  pub full : 0 < zeros → 2 ^ 22 ≤ half
  pub is : g ≡ 2 * half * 2 ^ zeros

-- of all sizes that are held, g is the nearest to n / c; where another is as near, g is the even one
pub record Nearest (n c g : ℕ) : Type 0 where
  pub held : Held g
  pub nearest : (h : ℕ) → Held h → apart (g * c) n ≤ apart (h * c) n
  pub tie : (h : ℕ) → Held h → apart (g * c) n ≡ apart (h * c) n → (h ≡ g) ⊎ Even g

-- z is a / c, negative where s is true, rounded once: to the nearest size g, and to infinity where that is 2 ^ 128 or more
pub record Rounded (s : Bool) (a c : ℕ) (z : Float) : Type 0 where
  pub g : ℕ
  pub nearest : Nearest (a * 2 ^ 149) c g
  pub value : g < 2 ^ (149 + 128) → HasValue z s g (2 ^ 149)
  pub over : 2 ^ (149 + 128) ≤ g → z ≡ inf s

-- The exact sum of ±a and ±b, negative where s and t are true: its sign and its size. Of unlike signs the larger one's sign holds, and 0 is +0.
abbrev pub sign_of_sum : Bool → ℕ → Bool → ℕ → Bool
sign_of_sum s a t b = cond (beq s t) s (cond (ltb a b) t (cond (ltb b a) s false))

abbrev pub size_of_sum : Bool → ℕ → Bool → ℕ → ℕ
size_of_sum s a t b = cond (beq s t) (a + b) (apart a b)

-- z is the sum of x and y: of finite numbers the exact sum, rounded; infinities of unlike signs have no sum
unfoldable pub Sum : Float → Float → Float → Type 0
Sum nan y z = z ≡ nan
Sum (inf s) nan z = z ≡ nan
Sum (inf s) (inf t) z = z ≡ cond (beq s t) (inf s) nan
Sum (inf s) (fin t n d) z = z ≡ inf s
Sum (fin s m e) nan z = z ≡ nan
Sum (fin s m e) (inf t) z = z ≡ inf t
Sum (fin s m e) (fin t n d) z =
    let a = m * up e * down d in
    let b = n * up d * down e in
    Rounded (sign_of_sum s a t b) (size_of_sum s a t b) (down e * down d) z
