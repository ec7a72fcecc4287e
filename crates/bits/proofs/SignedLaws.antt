-- Laws of two's complement, for numbers that the machine has as 32-bit ones. Assumes nothing.
use mathlib.Core.Path.{◌≡◌, refl, sym, ap, ◌∙◌}
use mathlib.Core.Bool.{Bool, true, false}
use Prim.Native.Nat.{ℕ, zero, suc, ◌+◌, ◌-◌, ◌<◌, ◌≤◌}
use native.Mathlib.Omega.{arith}
use native.Mathlib.Nat.{zero-add}
use lib.Dec.{T, ltb, leb-zero}
use lib.IntN.{ℤ, pos, negsuc, nat_abs, ◌-ℤ◌}
use lib.Signed.{le_z, lt_z, non_neg}
use mir.Syntax.{w32, w64}
use mir.Val.{Fits, SFits, to_z, of_z}
use mir.ValLaws.{to_z-of_z, to_z_pos}
use borrow.Author.Tests.{ltb-true, ltb-false, lt-ltb, le-ltb}
use Rattle.bits.specs.Fields.{choose}
use Rattle.bits.specs.Signed.{unsigned, signed}
use Rattle.bits.proofs.Every.{clash}

-- y is z as the machine reads it back from its bits
abbrev back : ℤ → ℤ
back z = to_z w32 (of_z w32 z)

module _ (h : ℕ) (few : h ≤ 2147483648) where
  pub above : (y : ℤ) → le_z (pos 0) y ≡ true → lt_z y (pos h) ≡ true → T (non_neg y) × Fits w64 (nat_abs y)
  above (pos n) p q = (tt, record { fits = omega (arith, ltb-true n h q) })
  above (negsuc n) p q = clash (sym p)

  pub above_number : (y : ℤ) → le_z (pos 0) y ≡ true → lt_z y (pos h) ≡ true → nat_abs y ≡ unsigned h y
  unfolding unsigned
  above_number (pos n) p q = rw q
  above_number (negsuc n) p q = clash (sym p)

  pub above_range : (y : ℤ) → le_z (pos 0) y ≡ true → lt_z y (pos h) ≡ false → (h + h) ≡ unsigned h y
  unfolding unsigned
  above_range (pos n) p q = rw q
  above_range (negsuc n) p q = clash (sym p)

  minus_one : (n : ℕ) → negsuc 0 -ℤ negsuc n ≡ pos n
  minus_one n = rw (le-ltb (suc n) 1 (omega arith)) (ap pos (omega arith))

  pub record Below (y : ℤ) : Type 0 where
    pub n : ℕ
    pub lt : n < h
    pub flipped : negsuc 0 -ℤ y ≡ pos n
    pub number : h + h - 1 - n ≡ unsigned h y

  pub below : (y : ℤ) → le_z (pos 0) y ≡ false → lt_z (negsuc h) y ≡ true → Below y
  unfolding unsigned
  below (pos n) p q = clash (sym (leb-zero n) ∙ p)
  below (negsuc n) p q = record { n = n; lt = ltb-true n h q; flipped = minus_one n; number = rw q }

  pub below_range : (y : ℤ) → le_z (pos 0) y ≡ false → lt_z (negsuc h) y ≡ false → (h + h) ≡ unsigned h y
  unfolding unsigned
  below_range (pos n) p q = clash (sym (leb-zero n) ∙ p)
  below_range (negsuc n) p q = rw q

  -- -1 - y, read back from its bits
  pub flipped_fits : {y : ℤ} → Below y → SFits w32 (negsuc 0 -ℤ y)
  flipped_fits f = rw f.flipped (record { sfits = omega arith })

  pub flipped_abs : {y : ℤ} (f : Below y) → back (negsuc 0 -ℤ y) ≡ pos f.n
  flipped_abs {y} f = to_z-of_z w32 (negsuc 0 -ℤ y) (flipped_fits f) ∙ f.flipped

  -- from the bits

  pub of_small : (n : ℕ) → n < h → to_z w32 n ≡ signed h n
  unfolding signed
  of_small n l = rw (lt-ltb n h l) (to_z_pos w32 n (omega arith))

  minus : (k : ℕ) → negsuc 0 -ℤ pos k ≡ negsuc k
  minus zero = refl
  minus (suc k) = ap (λ (x : ℕ). negsuc (suc x)) (zero-add k)

  pub of_large : (n : ℕ) → h ≤ n → n < (h + h) → SFits w32 (negsuc 0 -ℤ to_z w32 (h + h - 1 - n))
  of_large n m l = rw (to_z_pos w32 (h + h - 1 - n) (omega arith), minus (h + h - 1 - n)) (record { sfits = omega arith })

  pub of_large_eq : (n : ℕ) → h ≤ n → n < (h + h) → back (negsuc 0 -ℤ to_z w32 (h + h - 1 - n)) ≡ signed h n
  unfolding signed
  of_large_eq n m l =
      to_z-of_z w32 _ (of_large n m l) ∙ rw (to_z_pos w32 (h + h - 1 - n) (omega arith), minus (h + h - 1 - n), le-ltb n h m)

  -- there and back

  pub there : (n : ℕ) → n < (h + h) → unsigned h (signed h n) ≡ n
  unfolding unsigned signed
  there n l = go (ltb n h) refl
    where
      go : (t : Bool) → ltb n h ≡ t → unsigned h (signed h n) ≡ n
      go true e = rw (e, e)
      go false e = rw (e, lt-ltb (h + h - 1 - n) h (omega (arith, ltb-false n h e))) (omega (arith, ltb-false n h e))

  pub back_again : (z : ℤ) → unsigned h z < (h + h) → signed h (unsigned h z) ≡ z
  unfolding unsigned signed
  back_again (pos n) l = go (ltb n h) refl l
    where
      go : (t : Bool) → ltb n h ≡ t → choose t n (h + h) < (h + h) → signed h (choose (ltb n h) n (h + h)) ≡ pos n
      go true e l = rw (e, e)
      go false e l = absurd (omega arith)
  back_again (negsuc n) l = go (ltb n h) refl l
    where
      go : (t : Bool) → ltb n h ≡ t → choose t (h + h - 1 - n) (h + h) < (h + h)
          → signed h (choose (ltb n h) (h + h - 1 - n) (h + h)) ≡ negsuc n
      go true e l =
          let q : h ≤ h + h - 1 - n = omega (arith, ltb-true n h e) in
          rw (e, le-ltb (h + h - 1 - n) h q) (ap negsuc (omega (arith, ltb-true n h e)))
      go false e l = absurd (omega arith)
