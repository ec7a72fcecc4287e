-- Lists: the k-th and membership, lists in order, and the lines of some indexes or sets. Assumes nothing.
use Rattle.std.specs.Prelude.{None, Some}
use mathlib.Core.Path.{◌≡◌, refl, sym, ap, subst}
use mathlib.Core.List.Memᴰ
use mathlib.Core.List.{List, [], ◌∷◌, ◌++◌, Memᴰ}
use mathlib.Core.Logic.{⊎_elim}
use Prim.Native.Nat.{ℕ, zero, suc, ◌+◌, ◌<◌, ◌≤◌}
use native.Mathlib.Nat.{eq-or-lt_of_le, le_of_suc-le-suc, not-suc-le-zero}
use native.Mathlib.Omega.{arith}
use Rattle.bits.proofs.OptionLaws.{Some-injective, None-ne-Some, Some-ne-None}
use Rattle.bits.specs.Lists.{kth}
use Rattle.differences.specs.declared.line.Line.{Line}
use Rattle.differences.specs.Differences.{lines_from, lines_of}

-- what is the k-th is a member, and a member is the k-th for some k
pub kth_member : {A : Type 0} (xs : List A) (k : ℕ) {x : A} → kth xs k ≡ Some x → Memᴰ x xs
unfolding kth
kth_member [] k e = absurd (None-ne-Some _ e)
kth_member (y ∷ xs) zero e = Memᴰ.head (sym (Some-injective _ _ e))
kth_member (y ∷ xs) (suc k) e = Memᴰ.tail (kth_member xs k e)

pub member_kth : {A : Type 0} {x : A} {xs : List A} → Memᴰ x xs → (k : ℕ) × (kth xs k ≡ Some x)
unfolding kth
member_kth (Memᴰ.head e) = (0, ap Some (sym e))
member_kth (Memᴰ.tail m) = let r = member_kth m in (suc r.0, r.1)

-- a list that has no first has no member
pub no_member : {A : Type 0} (xs : List A) → kth xs 0 ≡ None → {x : A} → ¬ Memᴰ x xs
unfolding kth
no_member [] e m = Memᴰ.not-nil m
no_member (y ∷ xs) e m = Some-ne-None y e

module _ {A : Type 0} (R : A → A → Type 0) where
  -- each stands in R to all that come after it
  abbrev pub Ordered : List A → Type 0
  Ordered [] = Unit {0}
  Ordered (x ∷ xs) = ((y : A) → Memᴰ y xs → R x y) × Ordered xs

  pub ordered_append : (xs ys : List A) → Ordered xs → Ordered ys → ((x y : A) → Memᴰ x xs → Memᴰ y ys → R x y) → Ordered (xs ++ ys)
  ordered_append [] ys o p h = p
  ordered_append (x ∷ xs) ys o p h = (
    λ y m. ⊎_elim (λ q. o.0 y q) (λ q. h x y (Memᴰ.head refl) q) (Memᴰ.append_cases xs m),
    ordered_append xs ys o.1 p (λ z y m q. h z y (Memᴰ.tail m) q),
  )

  pub ordered_kth : (xs : List A) → Ordered xs → (j k : ℕ) {x y : A} → j < k → kth xs j ≡ Some x → kth xs k ≡ Some y → R x y
  unfolding kth
  ordered_kth [] o j k h d e = absurd (None-ne-Some _ d)
  ordered_kth (z ∷ xs) o j zero h d e = absurd (not-suc-le-zero h)
  ordered_kth (z ∷ xs) o zero (suc k) {x} {y} h d e = rw (← Some-injective z x d) (o.0 y (kth_member xs k e))
  ordered_kth (z ∷ xs) o (suc j) (suc k) h d e = ordered_kth xs o.1 j k (le_of_suc-le-suc h) d e

-- the lines of n indexes from i up
module _ (f : ℕ → List Line) where
  pub from_member : (n i : ℕ) {l : Line} → Memᴰ l (lines_from f i n) → (j : ℕ) × (i ≤ j) × (j < i + n) × Memᴰ l (f j)
  unfolding lines_from
  from_member zero i m = absurd (Memᴰ.not-nil m)
  from_member (suc n) i m =
      ⊎_elim (λ q. (i, omega arith, omega arith, q))
      (λ q. let r = from_member n (suc i) q in (r.0, omega (arith, r.1), omega (arith, r.2), r.3)) (Memᴰ.append_cases (f i) m)

  pub member_from : (n i j : ℕ) {l : Line} → i ≤ j → j < i + n → Memᴰ l (f j) → Memᴰ l (lines_from f i n)
  unfolding lines_from
  member_from zero i j h k m = absurd (omega arith)
  member_from (suc n) i j {l} h k m =
      ⊎_elim (λ (e : i ≡ j). Memᴰ.append_left {s = f i} (lines_from f (suc i) n) (rw e m)) (λ (q : i < j). Memᴰ.append_right (f i) (member_from n (suc i) j q (omega arith) m))
      (eq-or-lt_of_le h)

  pub ordered_from : (R : Line → Line → Type 0) → ((i : ℕ) → Ordered R (f i)) → ((i j : ℕ) (l m : Line) → i < j → Memᴰ l (f i) → Memᴰ m (f j) → R l m)
      → (n i : ℕ) → Ordered R (lines_from f i n)
  unfolding lines_from
  ordered_from R o h zero i = tt
  ordered_from R o h (suc n) i =
      ordered_append R (f i) (lines_from f (suc i) n) (o i) (ordered_from R o h n (suc i))
      (λ l m p q. let r = from_member n (suc i) q in h i r.0 l m r.1 p r.3)

-- the lines of some sets
module _ (f : ℕ → List Line) where
  pub of_member : (ks : List ℕ) {l : Line} → Memᴰ l (lines_of f ks) → (k : ℕ) × Memᴰ k ks × Memᴰ l (f k)
  unfolding lines_of
  of_member [] m = absurd (Memᴰ.not-nil m)
  of_member (k ∷ ks) m =
      ⊎_elim (λ q. (k, Memᴰ.head refl, q)) (λ q. let r = of_member ks q in (r.0, Memᴰ.tail r.1, r.2)) (Memᴰ.append_cases (f k) m)

  pub member_of : (ks : List ℕ) {k : ℕ} {l : Line} → Memᴰ k ks → Memᴰ l (f k) → Memᴰ l (lines_of f ks)
  unfolding lines_of
  member_of [] m q = absurd (Memᴰ.not-nil m)
  member_of (j ∷ ks) {k} {l} (Memᴰ.head e) q = Memᴰ.append_left (lines_of f ks) (subst (λ (n : ℕ). Memᴰ l (f n)) e q)
  member_of (j ∷ ks) (Memᴰ.tail m) q = Memᴰ.append_right (f j) (member_of ks m q)
