-- That the definitions of the rows mean what 002 says of them, bit by bit where it speaks of bits. Assumes nothing.
use mathlib.Core.Path.{◌≡◌, refl, sym, ap, ap₂, ◌∙◌, subst}
use mathlib.Core.Bool.{Bool, true, false, cond, not}
use mathlib.Core.Logic.{◌⊎◌, inl, inr, ⊎_elim, ◌↔◌, ◌≢◌}
use Prim.Native.Nat.{ℕ, zero, suc, ◌+◌, ◌-◌, ◌*◌, ◌/◌, ◌%◌, ◌^◌, ◌≤◌, ◌<◌, min, max}
use native.Mathlib.Nat.{pow-succ', div-one, le_of_suc-le-suc, not-suc-le-zero, eq-or-lt_of_le, mul-pos, zero-lt-suc}
use native.Mathlib.Omega.{arith}
use borrow.Author.Tests.{ltb-true, ltb-false, leb-true, leb-false, eqb-true, eqb-false, eq-eqb, ne_eqb, not-true}
use lib.Dec.{leb, ltb, eqb}
use lib.IntN.{pos}
use lib.Arith.{lt-one}
use lib.Pow.{high, pow_pos}
use lib.Bits.{bit_and, bit_or, and_step, or_step, and_shr, or_shr, block_half, block_odd}
use lib.Count.{count_trailing_zeros, ones, ones_step, leading_of_zero, leading_top}
use lib.Ieee.{Float, nan, inf, fin, binary32, up, down, minus, odd, eq, of_fields, of_bits}
use lib.Ieee.Digits.{odd_val}
use lib.Ieee.Fits.{down_pos}
use lib.Ieee.Positive.{first_pos}
use Rattle.ops.specs.Rows.{bit, total, complement, clz, popcount, reversed, bitrev, passes, mux, jumps}
use Rattle.ops.proofs.ReversalLaws.{half, reversed_lt}

bit_zero : (x : ℕ) → bit x 0 ≡ x % 2
bit_zero x = ap (λ (y : ℕ). y % 2) (div-one x)

bit_half : (x i : ℕ) → bit (x / 2) i ≡ bit x (suc i)
bit_half x i = ap (λ (y : ℕ). y % 2) (half x i)

-- ---- NOT_OLD.i32: each bit is the other one
other : (k x i : ℕ) → x < 2 ^ k → i < k → bit (2 ^ k - 1 - x) i ≡ 1 - bit x i
other zero x i h l = absurd (not-suc-le-zero l)
other (suc k) x zero h l = bit_zero (2 ^ suc k - 1 - x) ∙ omega (arith, pow-succ' 2 k) ∙ ap (λ (b : ℕ). 1 - b) (sym (bit_zero x))
other (suc k) x (suc i) h l =
    let p = pow-succ' 2 k in
    let e : (2 ^ suc k - 1 - x) / 2 ≡ 2 ^ k - 1 - x / 2 = omega arith in
    sym (bit_half (2 ^ suc k - 1 - x) i) ∙ ap (λ (y : ℕ). bit y i) e ∙ other k (x / 2) i (omega arith) (le_of_suc-le-suc l) ∙ ap (λ (b : ℕ). 1 - b) (bit_half x i)

pub complement_bit : (x i : ℕ) → x < 2 ^ 32 → i < 32 → bit (complement x) i ≡ 1 - bit x i
complement_bit = other 32

-- ---- CLZ.u32: 32 of 0, and else the zeros above the highest 1
pub clz_zero : clz 0 ≡ 32
clz_zero = leading_of_zero 32

pub clz_top : (x : ℕ) → 0 < x → x < 2 ^ 32 → (2 ^ (31 - clz x) ≤ x) × (x < 2 ^ (32 - clz x))
clz_top x p h =
    let (j, e, l, u) = leading_top 32 x p h in
    let below : 31 - clz x ≡ j = omega arith in
    let above : 32 - clz x ≡ suc j = omega arith in
    (subst (λ (i : ℕ). 2 ^ i ≤ x) (sym below) l, subst (λ (i : ℕ). x < 2 ^ i) (sym above) u)

first : (f : ℕ → ℕ) (k : ℕ) → total f (suc k) ≡ f 0 + total (λ i. f (suc i)) k
unfolding total
first f zero = omega arith
first f (suc k) = omega (arith, first f k)

alike : (f g : ℕ → ℕ) → ((i : ℕ) → f i ≡ g i) → (k : ℕ) → total f k ≡ total g k
unfolding total
alike f g e zero = refl
alike f g e (suc k) = ap₂ (λ (a b : ℕ). a + b) (alike f g e k) (e k)

no_ones : ones 0 ≡ 0
unfolding ones
no_ones = refl

counted : (k x : ℕ) → x < 2 ^ k → ones x ≡ total (bit x) k
unfolding total
counted zero x h = ap ones (lt-one h) ∙ no_ones
counted (suc k) x h =
    ones_step x
    ∙ ap₂ (λ (a b : ℕ). a + b) (sym (bit_zero x)) (counted k (x / 2) (omega (arith, pow-succ' 2 k)) ∙ alike (bit (x / 2)) (λ i. bit x (suc i)) (bit_half x) k)
    ∙ sym (first (bit x) k)

pub popcount_bits : (x : ℕ) → x < 2 ^ 32 → popcount x ≡ total (bit x) 32
popcount_bits = counted 32

-- ---- BITREV.i32: bit i is bit 31 - i
low_bit : (a k r i : ℕ) → i < k → bit (a * 2 ^ k + r) i ≡ bit r i
low_bit a zero r i l = absurd (not-suc-le-zero l)
low_bit a (suc k) r zero l = bit_zero (a * 2 ^ suc k + r) ∙ block_odd a k r ∙ sym (bit_zero r)
low_bit a (suc k) r (suc i) l =
    sym (bit_half (a * 2 ^ suc k + r) i) ∙ ap (λ (y : ℕ). bit y i) (block_half a k r) ∙ low_bit a k (r / 2) i (le_of_suc-le-suc l) ∙ bit_half r i

mirrored : (k x i : ℕ) → i < k → bit (reversed k x) i ≡ bit x (k - 1 - i)
unfolding reversed
mirrored zero x i l = absurd (not-suc-le-zero l)
mirrored (suc k) x i l = go (mirrored k (x / 2) i) (eq-or-lt_of_le (le_of_suc-le-suc l))
  where
    go : (i < k → bit (reversed k (x / 2)) i ≡ bit (x / 2) (k - 1 - i)) → (i ≡ k) ⊎ (i < k) → bit (reversed (suc k) x) i ≡ bit x (suc k - 1 - i)
    go rest (inl e) =
        let z : suc k - 1 - i ≡ 0 = omega arith in
        ap (λ (j : ℕ). (x % 2 * 2 ^ k + reversed k (x / 2)) / 2 ^ j % 2) e
        ∙ ap (λ (y : ℕ). y % 2) (high (x % 2) k (reversed_lt k (x / 2)))
        ∙ omega arith
        ∙ sym (bit_zero x)
        ∙ ap (bit x) (sym z)
    go rest (inr h) =
        let z : suc (k - 1 - i) ≡ suc k - 1 - i = omega arith in
        low_bit (x % 2) k (reversed k (x / 2)) i h ∙ rest h ∙ bit_half x (k - 1 - i) ∙ ap (bit x) z

pub bitrev_bit : (x i : ℕ) → i < 32 → bit (bitrev x) i ≡ bit x (31 - i)
bitrev_bit = mirrored 32

-- ---- MUX.i32

-- neg: the sign bit
pub neg_passes : (m : ℕ) → m < 2 ^ 32 → passes 0 m ≡ eqb (bit m 31) 1
neg_passes m h = go (leb (2 ^ 31) m) refl
  where
    go : (t : Bool) → leb (2 ^ 31) m ≡ t → t ≡ eqb (bit m 31) 1
    go true e = sym (eq-eqb (bit m 31) 1 (omega (arith, leb-true (2 ^ 31) m e)))
    go false e = sym (ne_eqb (bit m 31) 1 (λ b. omega (arith, leb-false (2 ^ 31) m e)))

-- int_zero: 0
pub int_zero_passes : (m : ℕ) → (passes 1 m ≡ true) ↔ (m ≡ 0)
int_zero_passes m = (eqb-true m 0, eq-eqb m 0)

-- fp_zero: either zero, 00000000 and 80000000
pub fp_zero_passes : (m : ℕ) → m < 2 ^ 32 → (passes 2 m ≡ true) ↔ ((m ≡ 0) ⊎ (m ≡ 2 ^ 31))
fp_zero_passes m h = (λ e. go (eqb-true (m % 2 ^ 31) 0 e) (ltb m (2 ^ 31)) refl, λ s. eq-eqb (m % 2 ^ 31) 0 (⊎_elim (λ e. omega arith) (λ e. omega arith) s))
  where
    go : m % 2 ^ 31 ≡ 0 → (t : Bool) → ltb m (2 ^ 31) ≡ t → (m ≡ 0) ⊎ (m ≡ 2 ^ 31)
    go z true e = inl (omega (arith, ltb-true m (2 ^ 31) e))
    go z false e = inr (omega (arith, ltb-false m (2 ^ 31) e))

-- "compares to ±0.0 as an IEEE 754 float"
zero_only : (d : ℕ) (s : Bool) (q k l : ℕ) → eq (odd d s q k l) (fin false 0 (pos 0)) ≡ eqb q 0
unfolding odd eq
zero_only d true zero k l = refl
zero_only d false zero k l = refl
zero_only d s (suc q) k l =
    let t = count_trailing_zeros d (suc q) in
    let e = minus (k + t) l in
    let a = suc q / 2 ^ t * up e in
    let p : 0 < a = first_pos a (2 ^ l) (subst (λ (y : ℕ). 0 < y) (sym (odd_val d s (suc q) k l)) (mul-pos (mul-pos (zero-lt-suc q) (pow_pos k)) (down_pos e))) in
    rw (ne_eqb (a * 1) (0 * down e) (λ z. omega arith), ne_eqb (suc q) 0 (λ z. omega arith))

no_zero : (t u s : Bool) (w : Float) → eq w (fin false 0 (pos 0)) ≡ false → eq (cond t (cond u (inf s) nan) w) (fin false 0 (pos 0)) ≡ false
unfolding eq
no_zero true true s w h = refl
no_zero true false s w h = refl
no_zero false u s w h = h

pub fp_zero_compares : (m : ℕ) → passes 2 m ≡ eq (of_bits binary32 m) (fin false 0 (pos 0))
unfolding of_bits of_fields
fp_zero_compares m = go (m % 2 ^ 31 / 2 ^ 23) refl
  where
    go : (x : ℕ) → m % 2 ^ 31 / 2 ^ 23 ≡ x → passes 2 m ≡ eq (of_fields binary32 (leb (2 ^ 31) m) x (m % 2 ^ 23)) (fin false 0 (pos 0))
    go zero e =
        let same : m % 2 ^ 31 ≡ m % 2 ^ 23 = omega arith in
        ap (λ (y : ℕ). eqb y 0) same ∙ sym (zero_only 24 (leb (2 ^ 31) m) (m % 2 ^ 23) 0 149)
    go (suc x) e =
        let t = m % 2 ^ 23 in
        let s = leb (2 ^ 31) m in
        ne_eqb (m % 2 ^ 31) 0 (λ z. omega arith)
        ∙ sym (no_zero (eqb (suc x) 255) (eqb t 0) s (odd 24 s (2 ^ 23 + t) x 149) (zero_only 24 s (2 ^ 23 + t) x 149 ∙ ne_eqb (2 ^ 23 + t) 0 (λ z. omega arith)))

-- "If true, A is chosen, else B is chosen"
pub mux_chooses : (mode a b m : ℕ) → mode < 3 → mux mode a b m ≡ cond (passes mode m) a b
unfolding mux
mux_chooses mode a b m h = rw (ne_eqb mode 3 (λ e. omega arith))

-- bit: each bit is A's where the mask's is 1, and B's where it is 0
bit_of_and : (a b i : ℕ) → bit (bit_and a b) i ≡ min (bit a i) (bit b i)
bit_of_and a b i = ap (λ (y : ℕ). y % 2) (and_shr a b i) ∙ omega (arith, and_step (a / 2 ^ i) (b / 2 ^ i))

bit_of_or : (a b i : ℕ) → bit (bit_or a b) i ≡ max (bit a i) (bit b i)
bit_of_or a b i = ap (λ (y : ℕ). y % 2) (or_shr a b i) ∙ omega (arith, or_step (a / 2 ^ i) (b / 2 ^ i))

pub mux_bit : (a b m i : ℕ) → m < 2 ^ 32 → i < 32 → bit (mux 3 a b m) i ≡ cond (eqb (bit m i) 1) (bit a i) (bit b i)
unfolding mux
mux_bit a b m i h l =
    bit_of_or (bit_and a m) (bit_and b (complement m)) i
    ∙ ap₂ max (bit_of_and a m i) (bit_of_and b (complement m) i ∙ ap (min (bit b i)) (complement_bit m i h l))
    ∙ go (bit m i) (omega arith)
  where
    go : (q : ℕ) → q < 2 → max (min (bit a i) q) (min (bit b i) (1 - q)) ≡ cond (eqb q 1) (bit a i) (bit b i)
    go zero k = omega arith
    go (suc zero) k = omega arith
    go (suc (suc q)) k = absurd (omega arith)

-- ---- BRANCHZ: on nonzero, or on zero with eq
pub jumps_nonzero : (s : ℕ) → (jumps false s ≡ true) ↔ (s ≢ 0)
unfolding jumps
jumps_nonzero s = (λ e. eqb-false s 0 (not-true (eqb s 0) e), λ n. ap not (ne_eqb s 0 n))

pub jumps_zero : (s : ℕ) → (jumps true s ≡ true) ↔ (s ≡ 0)
unfolding jumps
jumps_zero s = (eqb-true s 0, eq-eqb s 0)
