-- Additions that don't keep what is promised, each with a case in which it doesn't. Assumes nothing.
use mathlib.Core.Path.{◌≡◌, refl, sym, ◌∙◌, subst}
use mathlib.Core.Bool.{Bool, true, false, false≢true}
use Prim.Native.Nat.{ℕ, ◌+◌, ◌*◌, ◌^◌, ◌≤◌}
use native.Mathlib.Nat.{mul-one}
use native.Mathlib.Omega.{arith}
use borrow.Author.Tests.{ltb-true, ltb-false, eqb-false}
use lib.Dec.{ltb, le→leb}
use lib.IntN.{ℤ, pos, negsuc}
use lib.Ieee.{Float, inf, fin, neg, add, of_bits, to_bits, nan_bits}
use lib.Ieee.Exact.{HasValue}
use Rattle.fadd.specs.Single.{cleared, flipped, clamped, recorded, sum, fadd}
use Rattle.fadd.specs.Rounding.{apart, Held, Rounded, Sum}
use Rattle.fadd.specs.Promises.{absolute, Adds}
use Rattle.fadd.specs.Wrong.{negate_first, nan_through, nan_up, minus_zero_kept, other_nan, digit_lost}

-- a finite number that a / c is rounded to has its sign, and its size is the nearest
finite : {s t : Bool} {a c m : ℕ} {e : ℤ} (r : Rounded s a c (fin t m e)) → HasValue (fin t m e) s r.g (2 ^ 149)
finite {s} {t} {m = m} {e = e} r = go (ltb r.g (2 ^ (149 + 128))) refl
  where
    go : (b : Bool) → ltb r.g (2 ^ (149 + 128)) ≡ b → HasValue (fin t m e) s r.g (2 ^ 149)
    go true h = r.value (ltb-true r.g (2 ^ (149 + 128)) h)
    go false h =
        let z : fin t m e ≡ inf s = r.over (ltb-false r.g (2 ^ (149 + 128)) h) in
        let y : ◌≡◌ {A = ℕ} 0 1 = cc in
        absurd (omega arith)

-- ---- negates before it takes the absolute value: -1.0 with both is -1.0, and here 1.0
pub negates_first : ¬ Adds negate_first
unfolding negate_first sum clamped recorded cleared flipped of_bits add to_bits Sum neg absolute
negates_first d =
    let w = d.added true true false false 0xBF800000 0 (omega arith) (omega arith) in
    let e : fin false 1 (pos 0) ≡ w.x = w.plain.value in
    let r : Rounded true 1 1 (fin false 1 (pos 0)) = subst (λ (y : Float). Sum (fin true 1 (pos 0)) (fin false 0 (pos 0)) y) (sym e) w.sum in
    false≢true (finite r).0

-- ---- clamps no not-a-number
pub lets_nan_through : ¬ Adds nan_through
unfolding nan_through fadd clamped recorded of_bits add to_bits
lets_nan_through d = (d.added false false false false 0x7FC00000 0 (omega arith) (omega arith)).unit.number refl

-- ---- gives the upper bound for a not-a-number
pub takes_nan_up : ¬ Adds nan_up
unfolding nan_up fadd clamped recorded of_bits add to_bits nan_bits
takes_nan_up d = eqb-false 0x3F800000 0 refl (d.listed.nan_0_1 0x7FC00000 0 (omega arith) (omega arith) tt)

-- ---- keeps -0.0 under every clamp
pub keeps_minus_zero : ¬ Adds minus_zero_kept
unfolding minus_zero_kept fadd clamped recorded of_bits add to_bits
keeps_minus_zero d = eqb-false 0x80000000 0 refl d.listed.minus_zero_0_inf

-- ---- records another not-a-number
pub records_other_nan : ¬ Adds other_nan
unfolding other_nan fadd clamped recorded of_bits add to_bits Sum
records_other_nan d =
    let w = d.added false false false false 0x7FC00000 0 (omega arith) (omega arith) in
    eqb-false 0x7FE00000 0x7FC00000 refl (w.plain.named w.sum)

-- ---- leaves the last digit of a sum out: 1.0 and 2 ^ -23 make 3F800001, and here 1.0
pub loses_a_digit : ¬ Adds digit_lost
unfolding digit_lost fadd clamped recorded of_bits add to_bits Sum
loses_a_digit d =
    let w = d.added false false false false 0x3F800000 0x34000000 (omega arith) (omega arith) in
    let e : fin false 1 (pos 0) ≡ w.x = w.plain.value in
    let a : ℕ = 2 ^ 23 + 1 in
    let r : Rounded false a (2 ^ 23) (fin false 1 (pos 0)) = subst (λ (y : Float). Sum (fin false 1 (pos 0)) (fin false 1 (negsuc 22)) y) (sym e) w.sum in
    let g : r.g ≡ 2 ^ 149 = sym ((finite r).1 ∙ mul-one r.g) in
    let exact : Held (a * 2 ^ 126) = record { digits = a; zeros = 126; short = omega arith; is = refl } in
    let n : apart (r.g * 2 ^ 23) (a * 2 ^ 149) ≤ 0 = r.nearest.nearest (a * 2 ^ 126) exact in
    le→leb (apart (2 ^ 149 * 2 ^ 23) (a * 2 ^ 149)) 0 (rw g at n)
