-- 002's listed identities, said of the clamps themselves, and that clamp_0_1 is the two others in either order. Assumes nothing.
use mathlib.Core.Path.{◌≡◌, refl}
use mathlib.Core.Bool.{Bool, true, false}
use Prim.Native.Nat.{◌+◌, ◌*◌}
use native.Mathlib.Omega.{arith}
use borrow.Author.Tests.{ltb-false, lt-ltb}
use lib.Dec.{ltb}
use lib.Ieee.{Float, nan, inf, fin, up, down, lt, add, of_bits, to_bits}
use lib.Ieee.Fits.{down_pos}
use Rattle.fadd.specs.Single.{zero, minus_one, larger, smaller, clamped, recorded, sum}
use Rattle.fadd.specs.Promises.{minus_zero}

-- clamp_0_1; the one `nan` is read from NaN and -NaN alike
pub zero_to_one : (clamped 3 minus_zero ≡ zero) × (clamped 3 nan ≡ zero)
unfolding clamped lt
zero_to_one = (refl, refl)

-- clamp_m1_1
pub minus_one_to_one : (clamped 2 minus_zero ≡ minus_zero) × (clamped 2 nan ≡ minus_one)
unfolding clamped lt
minus_one_to_one = (refl, refl)

-- clamp_0_inf, 002's max (x, 0.0)
pub positive : (clamped 1 minus_zero ≡ zero) × (clamped 1 nan ≡ zero) × (clamped 1 (inf false) ≡ inf false) × (clamped 1 (inf true) ≡ zero)
unfolding clamped lt
positive = (refl, refl, refl, refl)

-- 02, Item 8: "recorded as 7FC00000"
pub recorded_nan : recorded nan ≡ 0x7FC00000
unfolding recorded
recorded_nan = refl

-- infinity and minus infinity have no sum
pub no_sum : sum 0 0x7F800000 0xFF800000 ≡ 0x7FC00000
unfolding sum recorded of_bits add to_bits
no_sum = refl

-- "with clamp_0_1 arising as the composition of clamp_0_inf and clamp_m1_1 in either order"
pub composed : (x : Float) → (clamped 1 (clamped 2 x) ≡ clamped 3 x) × (clamped 2 (clamped 1 x) ≡ clamped 3 x)
unfolding clamped larger smaller lt
composed nan = (refl, refl)
composed (inf true) = (refl, refl)
composed (inf false) = (refl, refl)
composed (fin true m e) = go (ltb (m * up e * 1) (1 * down e)) refl
  where
    -- it is above -1 or not
    go : (t : Bool) → ltb (m * up e * 1) (1 * down e) ≡ t → (clamped 1 (clamped 2 (fin true m e)) ≡ zero) × (zero ≡ zero)
    go true h = (rw (h, lt-ltb 0 (m * up e * 1 + 1 * down e) (omega (arith, down_pos e))), refl)
    go false h = (rw h, refl)
composed (fin false m e) = go (ltb (0 * down e) (m * up e * 1)) refl (ltb (m * up e * 1) (1 * down e)) refl
  where
    l : ltb 0 (1 * down e + m * up e * 1) ≡ true
    l = lt-ltb 0 (1 * down e + m * up e * 1) (omega (arith, down_pos e))

    -- it is above 0 or not, and below 1 or not
    go : (t : Bool) → ltb (0 * down e) (m * up e * 1) ≡ t → (u : Bool) → ltb (m * up e * 1) (1 * down e) ≡ u
        → (clamped 1 (clamped 2 (fin false m e)) ≡ clamped 3 (fin false m e)) × (clamped 2 (clamped 1 (fin false m e)) ≡ clamped 3 (fin false m e))
    go true h true k = (rw (l, h, k, h), rw (h, l, k))
    go true h false k = (rw (l, h, k), rw (h, l, k))
    go false h true k = (rw (l, h, k, h), rw h)
    go false h false k = absurd (omega (arith, down_pos e, ltb-false (0 * down e) (m * up e * 1) h, ltb-false (m * up e * 1) (1 * down e) k))
