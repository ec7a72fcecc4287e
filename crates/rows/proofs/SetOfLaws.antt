-- A set made from a test has what passes it. Assumes nothing.
use mathlib.Core.Path.{◌≡◌, refl, ap, sym, ◌∙◌, subst}
use mathlib.Core.Bool.{Bool, true, false}
use mathlib.Core.Logic.{⊎_elim}
use Prim.Native.Nat.{ℕ, zero, suc, ◌+◌, ◌-◌, ◌*◌, ◌/◌, ◌%◌, ◌^◌, ◌<◌, ◌≤◌}
use native.Mathlib.Nat.{not-suc-le-zero, two-pow-succ, one-mul, zero-mul, eq-or-lt_of_le}
use native.Mathlib.Omega.{arith}
use lib.Dec.{T, eqb}
use borrow.Author.Tests.{eqb-true, eqb-false}
use Rattle.bits.proofs.Every.{and_l, and_r}
use lib.Pow.{high, low, field, mod-mod-pow}
use Rattle.bits.specs.Fields.{choose}
use Rattle.bits.specs.Sets.{has}
use Rattle.rows.specs.Served.Table.{set_of, upto}

digit : Bool → ℕ
digit true = 1
digit false = 0

digit_choose : (b : Bool) (n : ℕ) → choose b (2 ^ n) 0 ≡ digit b * 2 ^ n
unfolding digit
digit_choose true n = sym (one-mul (2 ^ n))
digit_choose false n = sym (zero-mul (2 ^ n))

digit_eqb : (b : Bool) → eqb (digit b % 2) 1 ≡ b
unfolding digit
digit_eqb true = refl
digit_eqb false = refl

pub set_lt : (t : ℕ → Bool) (n : ℕ) → set_of t n < 2 ^ n
set_lt t zero = omega arith
set_lt t (suc n) = go (t n) (set_lt t n)
  where
    go : (b : Bool) → set_of t n < 2 ^ n → choose b (2 ^ n) 0 + set_of t n < 2 ^ suc n
    go true l = omega (arith, two-pow-succ n)
    go false l = omega (arith, two-pow-succ n)

-- a bit below n is one of the rest by 2 ^ n
below : (x n v : ℕ) → v < n → x / 2 ^ v % 2 ≡ x % 2 ^ n / 2 ^ v % 2
below x n v h =
    let j : ℕ = n - suc v in
    let e : j + 1 + v ≡ n = omega arith in
    let f : x % 2 ^ n / 2 ^ v ≡ x / 2 ^ v % 2 ^ (j + 1) = rw e at (field x (j + 1) v) in
    rw f (sym (mod-mod-pow (x / 2 ^ v) j 1))

pub has_set_of : (t : ℕ → Bool) (n v : ℕ) → v < n → has (set_of t n) v ≡ t v
has_set_of t zero v h = absurd (omega arith)
has_set_of t (suc n) v h = ⊎_elim top (λ l. rest l (has_set_of t n v l)) (eq-or-lt_of_le (le_of_lt_suc h))
  where
    le_of_lt_suc : v < suc n → v ≤ n
    le_of_lt_suc l = omega arith

    whole : set_of t (suc n) ≡ digit (t n) * 2 ^ n + set_of t n
    whole = ap (λ (x : ℕ). x + set_of t n) (digit_choose (t n) n)

    top : v ≡ n → has (set_of t (suc n)) v ≡ t v
    top e =
        ap (λ (x : ℕ). has (set_of t (suc n)) x) e
        ∙ ap (λ (x : ℕ). eqb (x / 2 ^ n % 2) 1) whole
        ∙ ap (λ (x : ℕ). eqb (x % 2) 1) (high (digit (t n)) n (set_lt t n))
        ∙ digit_eqb (t n)
        ∙ ap t (sym e)

    rest : v < n → has (set_of t n) v ≡ t v → has (set_of t (suc n)) v ≡ t v
    rest l ih =
        ap (λ (x : ℕ). eqb x 1)
        (below (set_of t (suc n)) n v l
        ∙ ap (λ (x : ℕ). x % 2 ^ n / 2 ^ v % 2) whole
        ∙ ap (λ (x : ℕ). x / 2 ^ v % 2) (low (digit (t n)) n (set_lt t n)))
        ∙ ih

-- a test of all numbers below n, at one of them
pub upto_at : (n : ℕ) (t : ℕ → Bool) → T (upto n t) → (x : ℕ) → x < n → T (t x)
upto_at zero t a x h = absurd (not-suc-le-zero h)
upto_at (suc n) t a x h = go (eqb x n) refl (λ l. upto_at n t (and_r (t n) (upto n t) a) x l)
  where
    go : (b : Bool) → eqb x n ≡ b → (x < n → T (t x)) → T (t x)
    go true q f = subst (λ (y : ℕ). T (t y)) (sym (eqb-true x n q)) (and_l (t n) (upto n t) a)
    go false q f = f (omega (arith, eqb-false x n q))
