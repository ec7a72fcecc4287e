-- FADD.f32 as it is defined keeps what is promised of it. Assumes nothing.
use mathlib.Core.Path.{◌≡◌, refl, sym, ap, ap₂, ◌∙◌}
use mathlib.Core.Bool.{Bool, false}
use Prim.Native.Nat.{ℕ, ◌^◌, ◌<◌}
use lib.Dec.{T}
use lib.Ieee.{Float, nan, binary32, add, lt, fits, of_bits, to_bits, nan_bits}
use lib.Ieee.Fits.{add-fits}
use lib.Ieee.Bits.{is_true, nan_bits_is}
use Rattle.fadd.specs.Single.{clamped, recorded, fadd}
use Rattle.fadd.specs.Promises.{minus_zero, operand, Added, Listed, Adds}
use Rattle.fadd.proofs.NanLaws.{nan_only, recorded_is}
use Rattle.fadd.proofs.Signs.{sources}
use Rattle.fadd.proofs.RoundingLaws.{add_sums}
use Rattle.fadd.proofs.ClampLaws.{records, positive, signed, unit}

module _ (n0 a0 n1 a1 : Bool) (a b : ℕ) (ha : a < 2 ^ 32) (hb : b < 2 ^ 32) where
  abbrev x : Float
  x = add binary32 (operand n0 a0 a) (operand n1 a1 b)

  fx : T (fits binary32 x)
  fx = add-fits binary32 (operand n0 a0 a) (operand n1 a1 b)

  -- what is recorded is the toolchain's sum of the two operands, clamped
  pub gives : (c : ℕ) → fadd n0 a0 n1 a1 c a b ≡ to_bits binary32 (clamped c x)
  unfolding fadd
  gives c = recorded_is _ ∙ ap₂ (λ (y z : Float). to_bits binary32 (clamped c (add binary32 y z))) (sources n0 a0 a ha) (sources n1 a1 b hb)

  of_minus_zero : x ≡ minus_zero → (fadd n0 a0 n1 a1 1 a b ≡ 0x00000000) × (fadd n0 a0 n1 a1 2 a b ≡ 0x80000000) × (fadd n0 a0 n1 a1 3 a b ≡ 0x00000000)
  unfolding clamped lt to_bits
  of_minus_zero e = (
    gives 1 ∙ ap (λ (y : Float). to_bits binary32 (clamped 1 y)) e,
    gives 2 ∙ ap (λ (y : Float). to_bits binary32 (clamped 2 y)) e,
    gives 3 ∙ ap (λ (y : Float). to_bits binary32 (clamped 3 y)) e,
  )

  added : Added fadd n0 a0 n1 a1 a b
  unfolding clamped
  added = record {
    x = x;
    sum = add_sums (operand n0 a0 a) (operand n1 a1 b);
    plain = rw (gives 0) (records x x refl fx);
    positive = rw (gives 1) (positive x fx);
    signed = rw (gives 2) (signed x fx);
    unit = rw (gives 3) (unit x fx);
    of_minus_zero = of_minus_zero;
  }

-- the sum of a not-a-number and anything is one, whatever its sign was
of_nan : (c p b : ℕ) → T (nan_bits binary32 p) → fadd false false false false c p b ≡ to_bits binary32 (clamped c nan)
unfolding fadd add
of_nan c p b h =
    recorded_is _
    ∙ ap (λ (y : Float). to_bits binary32 (clamped c (add binary32 y (of_bits binary32 b))))
    (nan_only (of_bits binary32 p) (sym (nan_bits_is binary32 p) ∙ is_true (nan_bits binary32 p) h))

listed : Listed fadd
unfolding fadd clamped recorded lt of_bits add to_bits
listed = record {
  minus_zero_0_1 = refl;
  nan_0_1 = λ p b hp hb h. of_nan 3 p b h;
  minus_zero_m1_1 = refl;
  nan_m1_1 = λ p b hp hb h. of_nan 2 p b h;
  nan_0_inf = λ p b hp hb h. of_nan 1 p b h;
  minus_zero_0_inf = refl;
}

pub adds : Adds fadd
adds = record { added = added; listed = listed }
