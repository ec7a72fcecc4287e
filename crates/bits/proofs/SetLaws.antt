-- Laws of sets as 64-bit words. Assumes nothing.
use Prim.Native.Nat.{ℕ, zero, suc, ◌+◌, ◌-◌, ◌*◌, ◌/◌, ◌%◌, ◌^◌, ◌≤◌, ◌<◌, min, max}
use mathlib.Core.Path.{◌≡◌, refl, sym, ap, ap₂, ◌∙◌, subst}
use mathlib.Core.Logic.{◌⊎◌, inl, inr, ⊎_elim, ◌↔◌, ◌≢◌}
use native.Mathlib.Omega.{arith}
use native.Mathlib.Nat.{le_antisymm, le_of_suc-le-suc, mod-lt, pow-suc, one-mul, add-zero, zero-add, div-one, div-div-eq-div-mul, div-eq_of_lt, lt_of_lt_of_le, eq-or-lt_of_le}
use native.Mathlib.Numerals.{add-one}
use lib.Arith.{bin_ind}
use lib.Pow.{shr-shr, shl-shr, pow_pos, pow_mono}
use lib.Bits.{bit_and, bit_or, and_step, or_step, and_le_l, and_le_r}
use lib.Count.{count_trailing_zeros, under}
use mathlib.Core.Bool.{Bool, true, false, ◌&&◌, not}
use lib.Dec.{T, eqb, ltb}
use borrow.Author.Tests.{eq-eqb, ne_eqb, eqb-true, ltb-true, ltb-false}
use Rattle.bits.specs.Fields.{choose}
use Rattle.bits.specs.Sets.{Has, has, minus, lowest_from, lowest}
use Rattle.bits.proofs.Every.{clash, T_true, and_l, and_r}

bit : ℕ → ℕ → ℕ
bit s r = s / 2 ^ r % 2

bit_zero : (s : ℕ) → bit s zero ≡ s % 2
unfolding bit
bit_zero s = omega arith

bit_suc : (s r : ℕ) → bit s (suc r) ≡ bit (s / 2) r
unfolding bit
bit_suc s r = ap (λ (x : ℕ). x % 2) (ap (λ (k : ℕ). s / 2 ^ k) (sym (add-one r) ∙ omega arith) ∙ sym (shr-shr s 1 r))

bit_two : (s r : ℕ) → bit s r < 2
unfolding bit
bit_two s r = omega arith

-- bit by bit
bit_of_or : (a b r : ℕ) → bit (bit_or a b) r ≡ max (bit a r) (bit b r)
bit_of_or a b zero = rw (bit_zero (bit_or a b), bit_zero a, bit_zero b) (omega (arith, or_step a b))
bit_of_or a b (suc r) = rw (bit_suc (bit_or a b) r, bit_suc a r, bit_suc b r) (ap (λ (x : ℕ). bit x r) (half_or a b) ∙ bit_of_or (a / 2) (b / 2) r)
  where
    half_or : (a b : ℕ) → bit_or a b / 2 ≡ bit_or (a / 2) (b / 2)
    half_or a b = omega (arith, or_step a b)

bit_minus : (a b r : ℕ) → bit (minus a b) r ≡ bit a r - bit b r
unfolding minus
bit_minus a b zero = rw (bit_zero (a - bit_and a b), bit_zero a, bit_zero b) (omega (arith, and_step a b, and_le_l (a / 2) (b / 2)))
bit_minus a b (suc r) = rw (bit_suc (a - bit_and a b) r, bit_suc a r, bit_suc b r) (ap (λ (x : ℕ). bit x r) (half_minus a b) ∙ bit_minus (a / 2) (b / 2) r)
  where
    half_minus : (a b : ℕ) → (a - bit_and a b) / 2 ≡ a / 2 - bit_and (a / 2) (b / 2)
    half_minus a b = omega (arith, and_step a b, and_le_l (a / 2) (b / 2))

-- no bits, no number
zero_bits : (s : ℕ) → ((r : ℕ) → bit s r ≡ 0) → s ≡ 0
zero_bits =
    bin_ind (λ (n : ℕ). ((r : ℕ) → bit n r ≡ 0) → n ≡ 0) (λ h. refl)
    (λ n ih h.
    let low : n % 2 ≡ 0 = sym (bit_zero n) ∙ h 0 in
    let high : n / 2 ≡ 0 = ih (λ r. sym (bit_suc n r) ∙ h (suc r)) in
    omega arith)

bits_zero : (r : ℕ) → bit 0 r ≡ 0
unfolding bit
bits_zero zero = refl
bits_zero (suc r) = bit_suc 0 r ∙ bits_zero r

-- in terms of membership

pub has_dec : (s r : ℕ) → Has s r ⊎ (¬ Has s r)
unfolding Has bit
has_dec s r = go (bit s r) refl
  where
    go : (x : ℕ) → bit s r ≡ x → Has s r ⊎ (¬ Has s r)
    go zero e = inr (λ h. omega arith)
    go (suc zero) e = inl e
    go (suc (suc x)) e = absurd (omega (arith, bit_two s r))

pub has_or : (a b r : ℕ) → Has (bit_or a b) r ↔ (Has a r ⊎ Has b r)
unfolding Has bit
has_or a b r = (
  λ h. ⊎_elim inl (λ na. inr (omega (arith, bit_of_or a b r, bit_two a r, bit_two b r))) (has_dec a r),
  λ s. ⊎_elim (λ h. omega (arith, bit_of_or a b r, bit_two a r, bit_two b r)) (λ h. omega (arith, bit_of_or a b r, bit_two a r, bit_two b r)) s,
)

pub has_minus : (a b r : ℕ) → Has (minus a b) r ↔ (Has a r × ¬ Has b r)
unfolding Has bit
has_minus a b r = (
  λ h. (omega (arith, bit_minus a b r, bit_two a r, bit_two b r), λ k. omega (arith, bit_minus a b r, bit_two a r, bit_two b r)),
  λ s. let k : bit b r ≢ 1 = s.1 in omega (arith, bit_minus a b r, bit_two a r, bit_two b r, s.0),
)

-- nothing is missing exactly where a lies inside b
pub minus_zero : (a b : ℕ) → minus a b ≡ 0 → (r : ℕ) → Has a r → Has b r
unfolding Has bit
minus_zero a b e r h = ⊎_elim (λ k. k) (λ n. absurd (gone ((has_minus a b r).1 (h, n)))) (has_dec b r)
  where
    gone : Has (minus a b) r → ⊥
    gone k = let z : bit (minus a b) r ≡ 0 = ap (λ (x : ℕ). bit x r) e ∙ bits_zero r in omega arith

pub zero_minus : (a b : ℕ) → ((r : ℕ) → Has a r → Has b r) → minus a b ≡ 0
unfolding Has bit
zero_minus a b h = zero_bits (minus a b) (λ r. ⊎_elim (λ k. absurd (((has_minus a b r).0 k).1 (h r ((has_minus a b r).0 k).0))) (λ n. omega (arith, bit_two (minus a b) r, n)) (has_dec (minus a b) r))

-- the lowest that passes a test

pub lowest_ext : (t u : ℕ → Bool) (n b : ℕ) → ((i : ℕ) → i < b + n → t i ≡ u i) → lowest_from t n b ≡ lowest_from u n b
unfolding lowest_from
lowest_ext t u zero b h = refl
lowest_ext t u (suc n) b h = rw (h b (omega arith), lowest_ext t u n (suc b) (λ i l. h i (omega arith)))

pub lowest_le : (t : ℕ → Bool) (n b : ℕ) → lowest_from t n b ≤ b + n
unfolding lowest_from
lowest_le t zero b = omega arith
lowest_le t (suc n) b = go (t b) (lowest_le t n (suc b))
  where
    go : (x : Bool) → lowest_from t n (suc b) ≤ suc b + n → choose x b (lowest_from t n (suc b)) ≤ b + suc n
    go true l = omega arith
    go false l = omega arith

-- nothing from b up to the lowest passes
pub lowest_below : (t : ℕ → Bool) (n b i : ℕ) → b ≤ i → i < lowest_from t n b → t i ≡ false
unfolding lowest_from
lowest_below t zero b i l h = absurd (omega arith)
lowest_below t (suc n) b i l h = go (t b) refl (λ m k. lowest_below t n (suc b) i m k) h
  where
    go : (x : Bool) → t b ≡ x → (suc b ≤ i → i < lowest_from t n (suc b) → t i ≡ false) → i < choose x b (lowest_from t n (suc b)) → t i ≡ false
    go true e f k = absurd (omega arith)
    go false e f k = ⊎_elim (λ q. ap t (sym q) ∙ e) (λ m. f m k) (eq-or-lt_of_le l)

-- the lowest passes, where one does
pub lowest_at : (t : ℕ → Bool) (n b : ℕ) → lowest_from t n b < b + n → t (lowest_from t n b) ≡ true
unfolding lowest_from
lowest_at t zero b h = absurd (omega arith)
lowest_at t (suc n) b h = go (t b) refl (λ m. lowest_at t n (suc b) m) h
  where
    go : (x : Bool) → t b ≡ x → (lowest_from t n (suc b) < suc b + n → t (lowest_from t n (suc b)) ≡ true)
        → choose x b (lowest_from t n (suc b)) < b + suc n → t (choose x b (lowest_from t n (suc b))) ≡ true
    go true e f k = e
    go false e f k = f (omega arith)

-- where none passes it is the end, and the other way round
pub lowest_none : (t : ℕ → Bool) (n b : ℕ) → ((i : ℕ) → b ≤ i → i < b + n → t i ≡ false) → lowest_from t n b ≡ b + n
unfolding lowest_from
lowest_none t zero b h = omega arith
lowest_none t (suc n) b h =
    rw (h b (omega arith) (omega arith)) (lowest_none t n (suc b) (λ i l m. h i (omega arith) (omega arith)) ∙ omega arith)

-- counted zeros are the lowest member

trailing_from : (n x b : ℕ) → count_trailing_zeros n (x / 2 ^ b) + b ≡ lowest_from (has x) n b
unfolding count_trailing_zeros lowest_from
trailing_from zero x b = zero-add b
trailing_from (suc n) x b = go (x / 2 ^ b % 2) (mod-lt (x / 2 ^ b) (pow_pos 1)) (trailing_from n x (suc b))
  where
    halved : x / 2 ^ b / 2 ≡ x / 2 ^ suc b
    halved = rw (div-div-eq-div-mul x (2 ^ b) 2, pow-suc 2 b)

    go : (d : ℕ) → d < 2 → count_trailing_zeros n (x / 2 ^ suc b) + suc b ≡ lowest_from (has x) n (suc b)
        → under d (count_trailing_zeros n (x / 2 ^ b / 2)) + b ≡ choose (eqb d 1) b (lowest_from (has x) n (suc b))
    go zero h ih = rw (halved, ← ih) (omega arith)
    go (suc zero) h ih = zero-add b
    go (suc (suc d)) h ih = absurd (omega arith)

pub trailing_lowest : (x : ℕ) → count_trailing_zeros 64 x ≡ lowest x
trailing_lowest x = rw (add-zero, div-one) at (trailing_from 64 x 0)

-- membership as a test

pub has_true : (s r : ℕ) → Has s r → has s r ≡ true
unfolding Has
has_true s r h = eq-eqb _ _ h

pub has_false : (s r : ℕ) → (¬ Has s r) → has s r ≡ false
unfolding Has
has_false s r h = ne_eqb _ _ h

pub true_has : (s r : ℕ) → has s r ≡ true → Has s r
unfolding Has
true_has s r e = eqb-true _ _ e

pub has_minus_test : (a b r : ℕ) → has (minus a b) r ≡ has a r && not (has b r)
has_minus_test a b r = ⊎_elim
    (λ x. ⊎_elim
    (λ y. has_false _ r (λ h. ((has_minus a b r).0 h).1 y) ∙ rw (has_true a r x, has_true b r y))
    (λ n. has_true _ r ((has_minus a b r).1 (x, n)) ∙ rw (has_true a r x, has_false b r n))
    (has_dec b r))
    (λ n. has_false _ r (λ h. n ((has_minus a b r).0 h).0) ∙ rw (has_false a r n))
    (has_dec a r)

-- the lowest member of a set of 64 bits

pub member_below : (s r : ℕ) → s < 2 ^ 64 → Has s r → r < 64
unfolding Has
member_below s r h k = go (ltb r 64) refl
  where
    go : (t : Bool) → ltb r 64 ≡ t → r < 64
    go true e = ltb-true r 64 e
    go false e =
        let z : s / 2 ^ r ≡ 0 = div-eq_of_lt (lt_of_lt_of_le h (pow_mono (ltb-false r 64 e))) in
        absurd (omega (arith, k, z))

no_bit : (s r : ℕ) → (¬ Has s r) → bit s r ≡ 0
unfolding Has bit
no_bit s r n = omega (arith, bit_two s r, n)

-- the set without members is 0
pub empty : (s : ℕ) → ((r : ℕ) → ¬ Has s r) → s ≡ 0
empty s h = zero_bits s (λ r. no_bit s r (h r))

pub has_none : (r : ℕ) → ¬ Has 0 r
unfolding Has bit
has_none r k = omega (arith, k, bits_zero r)

module _ (s : ℕ) (h : s < 2 ^ 64) where
  below_lowest : (r : ℕ) → r < lowest s → ¬ Has s r
  below_lowest r l k = clash (sym (has_true s r k) ∙ lowest_below (has s) 64 0 r (omega arith) l)

  -- a set that has no lowest member is empty
  pub lowest_empty : lowest s ≡ 64 → s ≡ 0
  lowest_empty e =
      zero_bits s (λ r. ⊎_elim (λ k. absurd (below_lowest r (omega (arith, e, member_below s r h k)) k)) (no_bit s r) (has_dec s r))

  -- any other has one, and nothing lower
  pub lowest_in : zero < s → (lowest s < 64) × Has s (lowest s) × ((r : ℕ) → r < lowest s → ¬ Has s r)
  lowest_in p =
      let small : lowest s < 64 = ⊎_elim (λ e. absurd (omega (arith, p, lowest_empty e))) (λ l. l) (eq-or-lt_of_le (rw (zero-add 64) at (lowest_le (has s) 64 0))) in
      (small, true_has s (lowest s) (lowest_at (has s) 64 0 (rw (zero-add 64) small)), below_lowest)

low_step : (a b ab c : ℕ) → ab ≡ c * 2 + min (a % 2) (b % 2) → c ≤ a / 2 → (a / 2 - c) * 2 + min (a % 2) (1 - b % 2) ≡ a - ab
low_step a b ab c e l = omega arith

-- `a & !b` of two 64-bit numbers is `minus a b`
pub and_not : (k a b : ℕ) → a < 2 ^ k → b < 2 ^ k → bit_and a (2 ^ k - 1 - b) ≡ minus a b
unfolding minus
and_not zero a b ha hb = let z : a ≡ 0 = omega arith in rw z
and_not (suc k) a b ha hb =
    let h : (2 ^ suc k - 1 - b) / 2 ≡ 2 ^ k - 1 - b / 2 = omega (arith, pow-suc 2 k) in
    let l : (2 ^ suc k - 1 - b) % 2 ≡ 1 - b % 2 = omega (arith, pow-suc 2 k) in
    let ih : bit_and (a / 2) (2 ^ k - 1 - b / 2) ≡ a / 2 - bit_and (a / 2) (b / 2) = and_not k (a / 2) (b / 2) (omega (arith, pow-suc 2 k)) (omega (arith, pow-suc 2 k)) in
    and_step a (2 ^ suc k - 1 - b)
    ∙ ap₂ (λ (x y : ℕ). bit_and (a / 2) x * 2 + min (a % 2) y) h l
    ∙ ap (λ (x : ℕ). x * 2 + min (a % 2) (1 - b % 2)) ih
    ∙ low_step a b (bit_and a b) (bit_and (a / 2) (b / 2)) (and_step a b) (and_le_l (a / 2) (b / 2))

pub has_and : (a b r : ℕ) → Has (bit_and a b) r ↔ (Has a r × Has b r)
unfolding Has bit
has_and a b r = (
  λ h. (omega (arith, bit_of_and a b r, bit_two a r, bit_two b r), omega (arith, bit_of_and a b r, bit_two a r, bit_two b r)),
  λ s. omega (arith, bit_of_and a b r, s.0, s.1),
)
  where
    bit_of_and : (a b r : ℕ) → bit (bit_and a b) r ≡ min (bit a r) (bit b r)
    bit_of_and a b zero = rw (bit_zero (bit_and a b), bit_zero a, bit_zero b) (omega (arith, and_step a b))
    bit_of_and a b (suc r) =
        let h : bit_and a b / 2 ≡ bit_and (a / 2) (b / 2) = omega (arith, and_step a b) in
        rw (bit_suc (bit_and a b) r, bit_suc a r, bit_suc b r) (ap (λ (x : ℕ). bit x r) h ∙ bit_of_and (a / 2) (b / 2) r)

-- the same of the tests
pub has_both : (a b r : ℕ) → has (bit_and a b) r ≡ has a r && has b r
has_both a b r =
    ⊎_elim
    (λ x. ⊎_elim
    (λ y. has_true _ r ((has_and a b r).1 (x, y)) ∙ rw (has_true a r x, has_true b r y))
    (λ n. has_false _ r (λ z. n ((has_and a b r).0 z).1) ∙ rw (has_true a r x, has_false b r n))
    (has_dec b r))
    (λ n. has_false _ r (λ z. n ((has_and a b r).0 z).0) ∙ rw (has_false a r n))
    (has_dec a r)

-- a set inside another is no larger a number
pub subset_le : (a b : ℕ) → ((r : ℕ) → Has a r → Has b r) → a ≤ b
unfolding minus
subset_le a b h = let z = zero_minus a b h in omega (arith, and_le_r a b)

-- the set of one register
bit_same : (q : ℕ) → bit (2 ^ q) q ≡ 1
unfolding bit
bit_same q = ap (λ (x : ℕ). x % 2) (ap (λ (x : ℕ). x / 2 ^ q) (sym (one-mul (2 ^ q))) ∙ shl-shr 1 q)

bit_pow : (q r : ℕ) → bit (2 ^ q) r ≡ 1 → r ≡ q
bit_pow zero zero e = refl
bit_pow zero (suc r) e = absurd (let z = bit_suc 1 r ∙ bits_zero r in omega (arith, e, z))
bit_pow (suc q) zero e = absurd (omega (arith, e, bit_zero (2 ^ suc q), pow-suc 2 q))
bit_pow (suc q) (suc r) e =
    let h : 2 ^ suc q / 2 ≡ 2 ^ q = omega (arith, pow-suc 2 q) in
    ap suc (bit_pow q r (ap (λ (x : ℕ). bit x r) (sym h) ∙ sym (bit_suc (2 ^ suc q) r) ∙ e))

pub has_single : (q r : ℕ) → Has (2 ^ q) r ↔ (r ≡ q)
unfolding Has bit
has_single q r = (λ h. bit_pow q r h, λ e. subst (λ (x : ℕ). Has (2 ^ q) x) (sym e) (bit_same q))

-- sets with the same members are the same number
pub same_set : (a b : ℕ) → ((r : ℕ) → (Has a r ↔ Has b r)) → a ≡ b
same_set a b h = le_antisymm (subset_le a b (λ r. (h r).0)) (subset_le b a (λ r. (h r).1))

-- what lies in a set already is left by it
pub and_twice : (a b : ℕ) → bit_and (bit_and a b) b ≡ bit_and a b
and_twice a b = same_set (bit_and (bit_and a b) b) (bit_and a b) (λ r. (
  λ h. ((has_and (bit_and a b) b r).0 h).0,
  λ h. (has_and (bit_and a b) b r).1 (h, ((has_and a b r).0 h).1),
))

-- the members of the set of all 64, by computation
ones : ℕ → Bool
ones zero = true
ones (suc n) = has (2 ^ 64 - 1) n && ones n

ones_at : (n : ℕ) → T (ones n) → (r : ℕ) → r < n → Has (2 ^ 64 - 1) r
unfolding ones
ones_at zero t r l = absurd (omega arith)
ones_at (suc n) t r l =
    ⊎_elim
    (λ e. rw e (true_has (2 ^ 64 - 1) n (T_true (has (2 ^ 64 - 1) n) (and_l (has (2 ^ 64 - 1) n) (ones n) t))))
    (λ q. ones_at n (and_r (has (2 ^ 64 - 1) n) (ones n) t) r q)
    (eq-or-lt_of_le (le_of_suc-le-suc l))

pub has_all : (r : ℕ) → (Has (2 ^ 64 - 1) r ↔ (r < 64))
unfolding ones
has_all r = (member_below (2 ^ 64 - 1) r (omega arith), ones_at 64 tt r)
