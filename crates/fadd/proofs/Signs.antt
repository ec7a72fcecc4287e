-- The sign bit of a pattern: clearing it and flipping it are IEEE 754's absolute value and negation. Assumes nothing.
use mathlib.Core.Path.{◌≡◌, refl, sym, ap, ap₂, ◌∙◌}
use mathlib.Core.Bool.{Bool, true, false, not, cond}
use Prim.Native.Nat.{ℕ, zero, suc, ◌+◌, ◌*◌, ◌/◌, ◌%◌, ◌^◌, ◌<◌}
use native.Mathlib.Omega.{arith}
use lib.Dec.{leb, ltb, eqb}
use lib.Bits.{bit_and, bit_xor, xor_add_and, and_high}
use borrow.Author.Tests.{le-leb, lt-leb, ltb-true, ltb-false}
use lib.Ieee.{Float, nan, inf, binary32, neg, odd, ones, of_fields, of_bits}
use Rattle.fadd.specs.Single.{cleared, flipped}
use Rattle.fadd.specs.Promises.{absolute, operand}

-- `b ^ 0x8000_0000`
pub flip_sign : (b : ℕ) → b < 2 ^ 32 → bit_xor b 2147483648 ≡ (b + 2 ^ 31) % 2 ^ 32
flip_sign b h = go (b / 2147483648) refl
  where
    common : (q : ℕ) → b / 2147483648 ≡ q → bit_and b 2147483648 ≡ q % 2 * 2147483648
    common q e = and_high b 1 31 ∙ ap (λ (x : ℕ). x % 2 * 2147483648) e

    go : (q : ℕ) → b / 2147483648 ≡ q → bit_xor b 2147483648 ≡ (b + 2 ^ 31) % 2 ^ 32
    go zero e = omega (arith, common 0 e, xor_add_and b 2147483648)
    go (suc zero) e = omega (arith, common 1 e, xor_add_and b 2147483648)
    go (suc (suc q)) e = absurd (omega arith)

-- a change of sign that leaves `nan` alone
module _ (f : Float → Float) (g : Bool → Bool) (f_nan : f nan ≡ nan) (f_inf : (s : Bool) → f (inf s) ≡ inf (g s)) (f_odd : (d : ℕ) (s : Bool) (q k l : ℕ) → f (odd d s q k l) ≡ odd d (g s) q k l) where
  of_cond : (t : Bool) (x y x' y' : Float) → f x ≡ x' → f y ≡ y' → f (cond t x y) ≡ cond t x' y'
  of_cond true x y x' y' p q = p
  of_cond false x y x' y' p q = q

  of_fields_lem : (s : Bool) (x t : ℕ) → f (of_fields binary32 s x t) ≡ of_fields binary32 (g s) x t
  unfolding of_fields
  of_fields_lem s zero t = f_odd 24 s t 0 149
  of_fields_lem s (suc x) t = of_cond (eqb (suc x) (ones binary32)) _ _ _ _ (of_cond (eqb t 0) _ _ _ _ (f_inf s) f_nan) (f_odd 24 s (8388608 + t) x 149)

  of_bits_lem : (b c : ℕ) → leb 2147483648 c ≡ g (leb 2147483648 b) → c % 2147483648 ≡ b % 2147483648 → f (of_bits binary32 b) ≡ of_bits binary32 c
  unfolding of_bits
  of_bits_lem b c s e =
      let l : c % 8388608 ≡ b % 8388608 = omega arith in
      of_fields_lem (leb 2147483648 b) (b % 2147483648 / 8388608) (b % 8388608)
      ∙ ap (λ (z : Bool). of_fields binary32 z (b % 2147483648 / 8388608) (b % 8388608)) (sym s)
      ∙ ap₂ (λ (m n : ℕ). of_fields binary32 (leb 2147483648 c) (m / 8388608) n) (sym e) (sym l)

pub clears : (b : ℕ) → of_bits binary32 (cleared true b) ≡ absolute (of_bits binary32 b)
unfolding cleared absolute odd
clears b =
    sym (of_bits_lem absolute (λ _. false) refl (λ s. refl) odds b (b % 2147483648) (lt-leb 2147483648 (b % 2147483648) (omega arith)) (omega arith))
  where
    odds : (d : ℕ) (s : Bool) (q k l : ℕ) → absolute (odd d s q k l) ≡ odd d false q k l
    odds d s zero k l = refl
    odds d s (suc q) k l = refl

pub flips : (b : ℕ) → b < 2 ^ 32 → of_bits binary32 (flipped true b) ≡ neg (of_bits binary32 b)
unfolding flipped neg odd
flips b h =
    sym (of_bits_lem neg not refl (λ s. refl) odds b ((b + 2147483648) % 4294967296) (other (ltb b 2147483648) refl) (omega arith))
  where
    odds : (d : ℕ) (s : Bool) (q k l : ℕ) → neg (odd d s q k l) ≡ odd d (not s) q k l
    odds d s zero k l = refl
    odds d s (suc q) k l = refl

    other : (t : Bool) → ltb b 2147483648 ≡ t → leb 2147483648 ((b + 2147483648) % 4294967296) ≡ not (leb 2147483648 b)
    other true e = let l = ltb-true b 2147483648 e in le-leb 2147483648 ((b + 2147483648) % 4294967296) (omega arith) ∙ sym (ap not (lt-leb 2147483648 b l))
    other false e = let l = ltb-false b 2147483648 e in lt-leb 2147483648 ((b + 2147483648) % 4294967296) (omega arith) ∙ sym (ap not (le-leb 2147483648 b l))

-- a source with its modifiers is the number that the promise names
pub sources : (n a : Bool) (b : ℕ) → b < 2 ^ 32 → of_bits binary32 (flipped n (cleared a b)) ≡ operand n a b
unfolding flipped cleared
sources false false b h = refl
sources false true b h = clears b
sources true false b h = flips b h
sources true true b h = flips (cleared true b) (omega arith) ∙ ap neg (clears b)
