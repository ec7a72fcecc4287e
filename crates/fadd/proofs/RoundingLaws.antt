-- The library's addition at binary32 is the exact sum, rounded once to nearest, ties to even (`Sum`). The library defines it so, by `round`, and
-- here that is said of every number that single precision has. Assumes nothing.
use mathlib.Core.Path.{◌≡◌, refl, sym, ap, ◌∙◌, subst}
use mathlib.Core.Bool.{Bool, true, false, not, cond, ◌&&◌}
use mathlib.Core.Logic.{◌⊎◌, inl, inr, ⊎_elim}
use Prim.Native.Nat.{ℕ, zero, suc, ◌+◌, ◌-◌, ◌*◌, ◌/◌, ◌%◌, ◌^◌, ◌≤◌, ◌<◌, compare, Ordering}
use native.Mathlib.Nat.{lt_irrefl, mul_assoc, mul_comm, mul-le-mul_right, mul-lt-mul_of_pos_right, mul-pos, suc-mul, add-mul, mod-lt, div-add-mod', div-mul-le_self, div-div-eq-div-mul, le-div_iff_mul-le, le_trans, lt_of_lt_of_le, pow-suc, one-mul}
use native.Mathlib.Omega.{arith}
use borrow.Author.Tests.{ltb-true, ltb-false, leb-true, leb-false, le-ltb}
use lib.Dec.{T, is_le, compare_is_eq, leb, ltb, eqb, leb→le, nleb→lt, eqb→eq, eqb_refl}
use lib.Arith.{lt_of_le-ne}
use lib.Pow.{pow-add, pow_pos, pow_mono}
use lib.Ieee.{Float, nan, inf, fin, binary32, nearest, units, round, add}
use lib.Ieee.Digits.{size_reaches}
use lib.Ieee.Fits.{down_pos, kept-lt, nearest-le, round_is}
use lib.Ieee.Exact.{HasValue, units_val}
use lib.Ieee.Nearest.{closest, nearest-ge}
use lib.Ieee.Order.{drop, kept}
use lib.Ieee.Scale.{grid}
use Rattle.fadd.specs.Rounding.{apart, Held, Even, Nearest, Rounded, Sum}

-- ---- which of two numbers is larger, and by how much at least of their multiples
abbrev Order : Ordering → ℕ → ℕ → Type 0
Order Ordering.lt a b = a < b
Order Ordering.eq a b = a ≡ b
Order Ordering.gt a b = b < a

order : (a b : ℕ) → Order (compare a b) a b
order a b = go (compare a b) (leb→le a b) (nleb→lt a b) (eqb→eq a b) (λ (e : a ≡ b). subst (λ (x : ℕ). T (eqb a x)) e (eqb_refl a))
  where
    go : (o : Ordering) → (T (is_le o) → a ≤ b) → (T (not (is_le o)) → b < a) → (T (compare_is_eq o) → a ≡ b) → (a ≡ b → T (compare_is_eq o)) → Order o a b
    go Ordering.lt h k e n = lt_of_le-ne (h tt) n
    go Ordering.eq h k e n = e tt
    go Ordering.gt h k e n = k tt

next : (z k u : ℕ) → z < k → z * u + u ≤ k * u
next z k u h = omega (arith, suc-mul z u, mul-le-mul_right {m = suc z} {n = k} u h)

-- ---- n / u to the nearest whole number, by its whole part q and the rest r
module _ (q r u n z : ℕ) (is : q * u + r ≡ n) (less : r < u) where
  -- at a tie q and q + 1 are as near, and the even one is taken
  even : r * 2 ≡ u → (b : ℕ) → b < 2 → apart ((q + b) * u) n ≡ r
  even t zero h = omega (arith, add-mul q 0 u)
  even t (suc zero) h = omega (arith, add-mul q 1 u, one-mul u)
  even t (suc (suc b)) h = absurd (omega arith)

  -- none is nearer than r, or than u - r
  far : (r ≤ apart (z * u) n) ⊎ (u - r ≤ apart (z * u) n)
  far = go (compare z q) (order z q)
    where
      go : (o : Ordering) → Order o z q → (r ≤ apart (z * u) n) ⊎ (u - r ≤ apart (z * u) n)
      go Ordering.lt h = inl (omega (arith, next z q u h))
      go Ordering.eq h = inl (omega (arith, ap (λ (x : ℕ). x * u) h))
      go Ordering.gt h = inr (omega (arith, next q z u h))

  near_by : (o : Ordering) → Order o (r * 2) u → apart (nearest q o * u) n ≤ apart (z * u) n
  near_by Ordering.lt x = ⊎_elim (λ a. omega arith) (λ a. omega arith) far
  near_by Ordering.eq x = ⊎_elim (λ a. omega (arith, even x (q % 2) (omega arith))) (λ a. omega (arith, even x (q % 2) (omega arith))) far
  near_by Ordering.gt x = ⊎_elim (λ a. omega (arith, suc-mul q u)) (λ a. omega (arith, suc-mul q u)) far

  tie_by : (o : Ordering) → Order o (r * 2) u → apart (nearest q o * u) n ≡ apart (z * u) n → (z ≡ nearest q o) ⊎ (nearest q o % 2 ≡ 0)
  tie_by Ordering.lt x e = go (compare z q) (order z q)
    where
      go : (o : Ordering) → Order o z q → (z ≡ q) ⊎ (q % 2 ≡ 0)
      go Ordering.lt h = absurd (omega (arith, next z q u h))
      go Ordering.eq h = inl h
      go Ordering.gt h = absurd (omega (arith, next q z u h))
  tie_by Ordering.eq x e = inr (omega arith)
  tie_by Ordering.gt x e = go (compare z (suc q)) (order z (suc q))
    where
      go : (o : Ordering) → Order o z (suc q) → (z ≡ suc q) ⊎ (suc q % 2 ≡ 0)
      go Ordering.lt h = absurd (omega (arith, suc-mul q u, next z (suc q) u h))
      go Ordering.eq h = inl h
      go Ordering.gt h = absurd (omega (arith, suc-mul q u, next (suc q) z u h))

closest_near : (n u z : ℕ) → 0 < u → apart (closest n u * u) n ≤ apart (z * u) n
closest_near n u z U = near_by (n / u) (n % u) u n z (div-add-mod' n u) (mod-lt n U) (compare (n % u * 2) u) (order (n % u * 2) u)

closest_tie : (n u z : ℕ) → 0 < u → apart (closest n u * u) n ≡ apart (z * u) n → (z ≡ closest n u) ⊎ (closest n u % 2 ≡ 0)
closest_tie n u z U = tie_by (n / u) (n % u) u n z (div-add-mod' n u) (mod-lt n U) (compare (n % u * 2) u) (order (n % u * 2) u)

-- ---- at most 24 digits and k zeros after them; 2 ^ 24 is 2 ^ 23 with one more zero
twice : (k : ℕ) → 2 ^ suc k ≡ 2 * 2 ^ k
twice k = pow-suc 2 k ∙ mul_comm (2 ^ k) 2

held_of : (q k : ℕ) → q ≤ 2 ^ 24 → Held (q * 2 ^ k)
held_of q k h = go (ltb q (2 ^ 24)) refl
  where
    go : (t : Bool) → ltb q (2 ^ 24) ≡ t → Held (q * 2 ^ k)
    go true e = record { digits = q; zeros = k; short = ltb-true q (2 ^ 24) e; is = refl }
    go false e =
        let all : q ≡ 2 ^ 24 = omega (arith, ltb-false q (2 ^ 24) e) in
        record { digits = 2 ^ 23; zeros = suc k; short = omega arith; is = ap (λ (x : ℕ). x * 2 ^ k) all ∙ omega (arith, twice k) }

even_of : (q k : ℕ) → q ≤ 2 ^ 24 → (0 < k → 2 ^ 23 ≤ q) → q % 2 ≡ 0 → Even (q * 2 ^ k)
even_of q k h full even = go (ltb q (2 ^ 24)) refl
  where
    go : (t : Bool) → ltb q (2 ^ 24) ≡ t → Even (q * 2 ^ k)
    go true e =
        let l = ltb-true q (2 ^ 24) e in
        let d : q ≡ 2 * (q / 2) = omega arith in
        record { half = q / 2; zeros = k; short = omega arith; full = λ p. omega (arith, full p); is = ap (λ (x : ℕ). x * 2 ^ k) d }
    go false e =
        let all : q ≡ 2 ^ 24 = omega (arith, ltb-false q (2 ^ 24) e) in
        record { half = 2 ^ 22; zeros = suc k; short = omega arith; full = λ p. omega arith; is = ap (λ (x : ℕ). x * 2 ^ k) all ∙ omega (arith, twice k) }

-- of two numbers below n the lower is farther from it
farther : (x y n : ℕ) → x < y → y ≤ n → apart y n < apart x n
farther x y n h l = omega arith

-- ---- n / c with its k last digits dropped, so that 24 are left if k is above 0: K * 2 ^ k is what it is rounded to
module _ (n c k : ℕ) (C : 0 < c) (most : n / (c * 2 ^ k) < 2 ^ 24) (least : 0 < k → 2 ^ 23 ≤ n / (c * 2 ^ k)) where
  abbrev u : ℕ
  u = c * 2 ^ k

  abbrev K : ℕ
  K = closest n (c * 2 ^ k)

  U : 0 < u
  U = mul-pos C (pow_pos k)

  -- a multiple of 2 ^ k, times c
  scaled : (z : ℕ) → z * 2 ^ k * c ≡ z * u
  scaled z = mul_assoc z (2 ^ k) c ∙ ap (λ (x : ℕ). z * x) (mul_comm (2 ^ k) c)

  kept_most : K ≤ 2 ^ 24
  kept_most = le_trans (nearest-le (n / u) (compare (n % u * 2) u)) most

  kept_least : 0 < k → 2 ^ 23 ≤ K
  kept_least h = le_trans (least h) (nearest-ge (n / u) (compare (n % u * 2) u))

  -- a size that is held is a multiple of 2 ^ k, or so far below n / c that the least K is nearer
  data Place (h : ℕ) : Type 0 where
    multiple : (z : ℕ) → h ≡ z * 2 ^ k → Place h
    under : h * c < 2 ^ 23 * u → 2 ^ 23 * u ≤ n → Place h

  place : (h : ℕ) → Held h → Place h
  place h w = go (leb k w.zeros) refl
    where
      go : (t : Bool) → leb k w.zeros ≡ t → Place h
      go true e =
          let l : w.zeros - k + k ≡ w.zeros = omega (arith, leb-true k w.zeros e) in
          multiple (w.digits * 2 ^ (w.zeros - k))
          (w.is ∙ ap (λ (x : ℕ). w.digits * 2 ^ x) (sym l) ∙ ap (λ (x : ℕ). w.digits * x) (pow-add 2 (w.zeros - k) k) ∙ sym (mul_assoc w.digits (2 ^ (w.zeros - k)) (2 ^ k)))
      go false e =
          let l : w.zeros < k = leb-false k w.zeros e in
          let p : 2 ^ (24 + w.zeros) ≤ 2 ^ (23 + k) = pow_mono {i = 24 + w.zeros} {j = 23 + k} (omega arith) in
          let b : w.digits * 2 ^ w.zeros < 2 ^ 23 * 2 ^ k =
          omega (arith, p, pow-add 2 24 w.zeros, pow-add 2 23 k, mul-lt-mul_of_pos_right w.short (pow_pos w.zeros)) in
          under
          (omega (arith, ap (λ (x : ℕ). x * c) w.is, scaled (2 ^ 23), mul-lt-mul_of_pos_right b C))
          (le_trans (mul-le-mul_right u (least (omega arith))) (div-mul-le_self n u))

  nearer : (h : ℕ) → Held h → apart (K * 2 ^ k * c) n ≤ apart (h * c) n
  nearer h w = go (place h w)
    where
      go : Place h → apart (K * 2 ^ k * c) n ≤ apart (h * c) n
      go (multiple z e) = rw (e, scaled K, scaled z) (closest_near n u z U)
      go (under a b) = rw (scaled K) (omega (arith, closest_near n u (2 ^ 23) U))

  tied : (h : ℕ) → Held h → apart (K * 2 ^ k * c) n ≡ apart (h * c) n → (h ≡ K * 2 ^ k) ⊎ Even (K * 2 ^ k)
  tied h w e = go (place h w)
    where
      go : Place h → (h ≡ K * 2 ^ k) ⊎ Even (K * 2 ^ k)
      go (multiple z i) = ⊎_elim (λ a. inl (i ∙ ap (λ (x : ℕ). x * 2 ^ k) a)) (λ a. inr (even_of K k kept_most kept_least a)) (closest_tie n u z U (sym (ap (λ (x : ℕ). apart x n) (scaled K)) ∙ e ∙ ap (λ (x : ℕ). apart x n) (ap (λ (x : ℕ). x * c) i ∙ scaled z)))
      go (under a b) =
          absurd (lt_irrefl _ (lt_of_lt_of_le (farther (h * c) (2 ^ 23 * u) n a b) (subst (λ (x : ℕ). x ≤ apart (2 ^ 23 * u) n) (sym (ap (λ (x : ℕ). apart x n) (scaled K)) ∙ e) (closest_near n u (2 ^ 23) U))))

  rounds : Nearest n c (K * 2 ^ k)
  rounds = record { held = held_of K k kept_most; nearest = nearer; tie = tied }

-- ---- `round` at binary32
few : (n c : ℕ) → n / (c * 2 ^ drop 24 n c) < 2 ^ 24
few n c = subst (λ (x : ℕ). x < 2 ^ 24) (div-div-eq-div-mul n c (2 ^ drop 24 n c)) (kept-lt 24 (n / c))

full : (n c : ℕ) → 0 < drop 24 n c → 2 ^ 23 ≤ n / (c * 2 ^ drop 24 n c)
full n c h =
    let k = drop 24 n c in
    subst (λ (x : ℕ). 2 ^ 23 ≤ x) (div-div-eq-div-mul n c (2 ^ k))
    ((le-div_iff_mul-le (pow_pos k)).1 (subst (λ (x : ℕ). x ≤ n / c) (pow-add 2 23 k) (size_reaches (n / c) (23 + k) (omega arith))))

past_the_end : (s : Bool) (q k : ℕ) → 2 ^ (149 + 128) ≤ q * 2 ^ k → units binary32 s q k ≡ inf s
unfolding units
past_the_end s q k h = rw (le-ltb (q * 2 ^ k) (2 ^ (149 + 128)) h)

pub round_rounds : (s : Bool) (a c : ℕ) → 0 < c → Rounded s a c (round binary32 s a c)
round_rounds s a c C =
    let n = a * 2 ^ 149 in
    let k = drop 24 n c in
    record {
      g = grid binary32 a c;
      nearest = rounds n c k C (few n c) (full n c);
      value = λ h. subst (λ (z : Float). HasValue z s (grid binary32 a c) (2 ^ 149)) (sym (round_is binary32 s a c)) (units_val binary32 s (kept 24 n c) k h);
      over = λ h. round_is binary32 s a c ∙ past_the_end s (kept 24 n c) k h;
    }

-- ---- `add`
and_cond : (s q : Bool) → cond q s false ≡ s && q
and_cond true true = refl
and_cond true false = refl
and_cond false true = refl
and_cond false false = refl

-- of unlike signs, the smaller size is taken from the larger
unlike : (s t : Bool) (a b c : ℕ) → 0 < c
    → Rounded (cond (ltb a b) t (cond (ltb b a) s false)) (apart a b) c (cond (ltb a b) (round binary32 t (b - a) c) (round binary32 (s && ltb b a) (a - b) c))
unlike s t a b c C = go (ltb a b) refl
  where
    go : (p : Bool) → ltb a b ≡ p → Rounded (cond p t (cond (ltb b a) s false)) (apart a b) c (cond p (round binary32 t (b - a) c) (round binary32 (s && ltb b a) (a - b) c))
    go true e =
        let d : apart a b ≡ b - a = omega (arith, ltb-true a b e) in
        subst (λ (x : ℕ). Rounded t x c (round binary32 t (b - a) c)) (sym d) (round_rounds t (b - a) c C)
    go false e =
        let d : apart a b ≡ a - b = omega (arith, ltb-false a b e) in
        subst (λ (x : ℕ). Rounded (cond (ltb b a) s false) x c (round binary32 (s && ltb b a) (a - b) c)) (sym d)
        (subst (λ (x : Bool). Rounded x (a - b) c (round binary32 (s && ltb b a) (a - b) c)) (sym (and_cond s (ltb b a))) (round_rounds (s && ltb b a) (a - b) c C))

pub add_sums : (x y : Float) → Sum x y (add binary32 x y)
unfolding Sum add
add_sums nan y = refl
add_sums (inf s) nan = refl
add_sums (inf s) (inf t) = refl
add_sums (inf s) (fin t n d) = refl
add_sums (fin s m e) nan = refl
add_sums (fin s m e) (inf t) = refl
add_sums (fin true m e) (fin true n d) = round_rounds true _ _ (mul-pos (down_pos e) (down_pos d))
add_sums (fin false m e) (fin false n d) = round_rounds false _ _ (mul-pos (down_pos e) (down_pos d))
add_sums (fin true m e) (fin false n d) = unlike true false _ _ _ (mul-pos (down_pos e) (down_pos d))
add_sums (fin false m e) (fin true n d) = unlike false true _ _ _ (mul-pos (down_pos e) (down_pos d))
