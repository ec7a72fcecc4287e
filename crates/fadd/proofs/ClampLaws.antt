-- What a clamp leaves, by where the sum lies, and how it is recorded. Assumes nothing.
use mathlib.Core.Path.{◌≡◌, refl, sym, ap, ◌∙◌, subst}
use mathlib.Core.Bool.{Bool, true, false, cond, ◌&&◌, ◌||◌, true≢false}
use Prim.Native.Nat.{ℕ, ◌+◌, ◌*◌, ◌≤◌}
use native.Mathlib.Omega.{arith}
use borrow.Author.Tests.{ltb-true, eqb-true, lt-ltb, le-ltb}
use lib.Dec.{T, ltb, eqb}
use lib.Ieee.{Float, nan, inf, fin, binary32, up, down, below, level, lt, eq, le, is_nan, fits, to_bits}
use lib.Ieee.Fits.{down_pos, cond-fits}
use lib.Ieee.Bits.{is_true, of_bits-to_bits, to_bits-lt}
use Rattle.fadd.specs.Single.{zero, one, minus_one, larger, smaller, clamped}
use Rattle.fadd.specs.Promises.{Records, Clamps}

-- ---- of two numbers in order, with sizes a and b and their signs, the second is not below the first
either : {X : Type 0} (p q r : Bool) → (p ≡ true → X) → (q ≡ true → X) → T (p || (q && r)) → X
either true q r f g t = f refl
either false true r f g t = g refl
either false false r f g t = absurd t

both : (p q : Bool) → T (p && q) → (p ≡ true) × (q ≡ true)
both true true t = (refl, refl)
both true false t = absurd t
both false q t = absurd t

not_below : (s t : Bool) (a b : ℕ) → T (below s a t b || level s a t b) → below t b s a ≡ false
not_below false false a b h =
    either (ltb a b) (eqb a b) true (λ e. le-ltb b a (omega (arith, ltb-true a b e))) (λ e. le-ltb b a (omega (arith, eqb-true a b e))) h
not_below false true a b h =
    let (e, z) = both (eqb a b) (eqb a 0) h in
    le-ltb 0 (b + a) (omega (arith, eqb-true a b e, eqb-true a 0 z))
not_below true false a b h = refl
not_below true true a b h =
    either (ltb b a) (eqb a b) true (λ e. le-ltb a b (omega (arith, ltb-true b a e))) (λ e. le-ltb a b (omega (arith, eqb-true a b e))) h

not_lt : (x y : Float) → T (le x y) → lt y x ≡ false
unfolding le lt eq
not_lt nan y h = absurd h
not_lt (inf s) nan h = absurd h
not_lt (inf true) (inf true) h = refl
not_lt (inf true) (inf false) h = refl
not_lt (inf false) (inf true) h = absurd h
not_lt (inf false) (inf false) h = refl
not_lt (inf true) (fin t n d) h = refl
not_lt (inf false) (fin t n d) h = absurd h
not_lt (fin s m e) nan h = absurd h
not_lt (fin s m e) (inf true) h = absurd h
not_lt (fin s m e) (inf false) h = refl
not_lt (fin s m e) (fin t n d) h = not_below s t (m * up e * down d) (n * up d * down e) h

-- nothing is below a not-a-number
lt_nan : (l : Float) → lt l nan ≡ false
unfolding lt
lt_nan nan = refl
lt_nan (inf s) = refl
lt_nan (fin s m e) = refl

-- nor is it below anything
below_number : (z h : Float) → lt z h ≡ true → is_nan z ≡ false
unfolding lt is_nan
below_number nan h e = absurd (true≢false (sym e))
below_number (inf s) h e = refl
below_number (fin s m e) h i = refl

smaller_number : (z h : Float) → is_nan h ≡ false → is_nan (smaller z h) ≡ false
unfolding smaller
smaller_number z h n = go (lt z h) refl
  where
    go : (t : Bool) → lt z h ≡ t → is_nan (cond t z h) ≡ false
    go true e = below_number z h e
    go false e = n

-- ---- what is recorded of a number that single precision has
pub records : (v x : Float) → v ≡ x → T (fits binary32 x) → Records (to_bits binary32 v) x
unfolding to_bits
records v x e h = subst (λ (y : Float). Records (to_bits binary32 y) x) (sym e) (record { width = to_bits-lt binary32 x h; value = of_bits-to_bits binary32 x h; named = λ n. ap (to_bits binary32) n })

-- ---- a clamp from l up to h, where what is not below h is above l
module _ (l h x : Float) (fl : T (fits binary32 l)) (fh : T (fits binary32 h)) (fx : T (fits binary32 x)) (h_number : is_nan h ≡ false)
    (apart : lt l h ≡ true) (across : T (le h x) → lt l x ≡ true) where
  low : lt l x ≡ false → smaller (larger x l) h ≡ l
  unfolding smaller larger
  low a = rw (a, apart)

  inside : T (lt l x) → T (lt x h) → smaller (larger x l) h ≡ x
  unfolding smaller larger
  inside a b = rw (is_true (lt l x) a, is_true (lt x h) b)

  high : T (le h x) → smaller (larger x l) h ≡ h
  unfolding smaller larger
  high a = rw (across a, not_lt h x a)

  fitting : T (fits binary32 (smaller (larger x l) h))
  unfolding smaller larger
  fitting = cond-fits binary32 (lt (cond (lt l x) x l) h) (cond (lt l x) x l) h (cond-fits binary32 (lt l x) x l fx fl) fh

  pub clamps : Clamps l h x (to_bits binary32 (smaller (larger x l) h))
  unfolding is_nan
  clamps = record {
    inside = λ a b. records _ x (inside a b) fx;
    low = λ a. records _ l (low (not_lt x l a)) fl;
    high = λ a. records _ h (high a) fh;
    none = λ e. records _ l (low (ap (lt l) e ∙ lt_nan l)) fl;
    number = λ e. true≢false (sym (ap is_nan (sym (of_bits-to_bits binary32 _ fitting) ∙ e)) ∙ smaller_number (larger x l) h h_number);
  }

-- ---- 002's three clamps

-- what is not below 1 is above 0 and -1
from_one : (x : Float) → T (le one x) → (lt zero x ≡ true) × (lt minus_one x ≡ true)
unfolding le lt eq
from_one nan h = absurd h
from_one (inf true) h = absurd h
from_one (inf false) h = (refl, refl)
from_one (fin true m e) h = absurd (omega (arith, down_pos e, eqb-true (1 * down e) 0 (both (eqb (1 * down e) (m * up e * 1)) (eqb (1 * down e) 0) h).1))
from_one (fin false m e) h =
    let l : 1 * down e ≤ m * up e * 1 = either (ltb (1 * down e) (m * up e * 1)) (eqb (1 * down e) (m * up e * 1)) true
    (λ i. omega (arith, ltb-true (1 * down e) (m * up e * 1) i)) (λ i. omega (arith, eqb-true (1 * down e) (m * up e * 1) i)) h in
    let p = down_pos e in
    (lt-ltb (0 * down e) (m * up e * 1) (omega arith), lt-ltb 0 (1 * down e + m * up e * 1) (omega arith))

from_infinity : (x : Float) → T (le (inf false) x) → lt zero x ≡ true
unfolding le lt eq
from_infinity nan h = absurd h
from_infinity (inf true) h = absurd h
from_infinity (inf false) h = refl
from_infinity (fin s m e) h = absurd h

module _ (x : Float) (fx : T (fits binary32 x)) where
  pub positive : Clamps zero (inf false) x (to_bits binary32 (clamped 1 x))
  unfolding clamped fits is_nan lt
  positive = clamps zero (inf false) x tt tt fx refl refl (from_infinity x)

  pub signed : Clamps minus_one one x (to_bits binary32 (clamped 2 x))
  unfolding clamped fits is_nan lt
  signed = clamps minus_one one x tt tt fx refl refl (λ h. (from_one x h).1)

  pub unit : Clamps zero one x (to_bits binary32 (clamped 3 x))
  unfolding clamped fits is_nan lt
  unit = clamps zero one x tt tt fx refl refl (λ h. (from_one x h).0)
