-- Laws of the first refusal among several. Assumes nothing.
use mathlib.Core.Path.{◌≡◌, refl, sym, ap, ◌∙◌}
use mathlib.Core.List.Memᴰ
use mathlib.Core.List.{List, [], ◌∷◌, Memᴰ}
use mathlib.Core.Logic.{◌⊎◌, inl, inr, ⊎_elim}
use Prim.Native.Nat.{ℕ, zero, suc, ◌+◌, ◌<◌}
use native.Mathlib.Nat.{eq-or-lt_of_le, le_of_suc-le-suc}
use native.Mathlib.Numerals.{add-one}
use native.Mathlib.Omega.{arith}
use Rattle.bits.specs.Outcomes.{Outcome, gives, refuses, passes, ◌then◌, first, each}
use Rattle.bits.proofs.OutcomeLaws.{never, then_gives, then_passed, then_refused, Refusals, of_gives, of_then}

-- what a test ends with
abbrev Test : Type 0 → Type 0
Test R = Outcome R (Unit {0})

module _ {R : Type 0} where
  pub both : {a b : Test R} → (a then b) ≡ passes → (a ≡ passes) × (b ≡ passes)
  both {a} {b} e = then_gives a b tt e

  pub neither : {a b : Test R} → a ≡ passes → b ≡ passes → (a then b) ≡ passes
  neither {a} {b} p q = then_passed b p ∙ q

  pub then_assoc : (a b c : Test R) → ((a then b) then c) ≡ (a then (b then c))
  unfolding ◌then◌
  then_assoc (gives tt) b c = refl
  then_assoc (refuses f) b c = refl

  pub then_none : (a : Test R) → (a then passes) ≡ a
  unfolding ◌then◌
  then_none (gives tt) = refl
  then_none (refuses f) = refl

  -- where a refusal comes from
  pub either : (a b : Test R) {f : R} → (a then b) ≡ refuses f → (a ≡ refuses f) ⊎ (b ≡ refuses f)
  unfolding ◌then◌
  either (gives tt) b e = inr e
  either (refuses g) b e = inl e

  -- among some indexes

  pub first_of : (f : ℕ → Test R) (n : ℕ) → first f n ≡ passes → (i : ℕ) → i < n → f i ≡ passes
  unfolding first
  first_of f zero e i h = absurd (omega arith)
  first_of f (suc n) e i h =
      let b = both {a = first f n} {b = f n} e in
      ⊎_elim (λ q. rw q b.1) (λ l. first_of f n b.0 i l) (eq-or-lt_of_le (le_of_suc-le-suc h))

  pub first_to : (f : ℕ → Test R) (n : ℕ) → ((i : ℕ) → i < n → f i ≡ passes) → first f n ≡ passes
  unfolding first
  first_to f zero h = refl
  first_to f (suc n) h = neither (first_to f n (λ i l. h i (omega arith))) (h n (omega arith))

  pub first_refused : (f : ℕ → Test R) (n : ℕ) {r : R} → first f n ≡ refuses r → (i : ℕ) × (i < n) × (f i ≡ refuses r) × (first f i ≡ passes)
  unfolding first ◌then◌
  first_refused f zero e = never (sym e)
  first_refused f (suc n) {r} e = go (first f n) refl (λ p. first_refused f n p) e
    where
      go : (a : Test R) → first f n ≡ a → (first f n ≡ refuses r → (i : ℕ) × (i < n) × (f i ≡ refuses r) × (first f i ≡ passes))
          → (a then f n) ≡ refuses r → (i : ℕ) × (i < suc n) × (f i ≡ refuses r) × (first f i ≡ passes)
      go (gives tt) p h q = (n, omega arith, q, p)
      go (refuses g) p h q = let s = h (p ∙ q) in (s.0, omega (arith, s.1), s.2, s.3)

  pub first_more : (f : ℕ → Test R) (i : ℕ) → first f i ≡ passes → f i ≡ passes → first f (i + 1) ≡ passes
  unfolding first
  first_more f i a b = rw (add-one i) (neither a b)

  -- the first refusal, once it is met
  pub first_stop : (f : ℕ → Test R) (i n : ℕ) {r : R} → i < n → first f i ≡ passes → f i ≡ refuses r → first f n ≡ refuses r
  unfolding first
  first_stop f i zero h a r = absurd (omega arith)
  first_stop f i (suc n) h a r =
      ⊎_elim (λ q. ap (λ (k : ℕ). first f k then f k) (sym q) ∙ then_passed (f i) a ∙ r)
      (λ l. then_refused (f n) (first_stop f i n l a r)) (eq-or-lt_of_le (le_of_suc-le-suc h))

  module _ {A : Type 0} (f : A → Test R) where
    pub each_of : (xs : List A) → each f xs ≡ passes → (x : A) → Memᴰ x xs → f x ≡ passes
    unfolding each
    each_of [] e x q = absurd (Memᴰ.not-nil q)
    each_of (y ∷ xs) e x q = let b = both {a = f y} {b = each f xs} e in ⊎_elim (λ p. rw p b.0) (λ t. each_of xs b.1 x t) (Memᴰ.cases_cons q)

    pub each_to : (xs : List A) → ((x : A) → Memᴰ x xs → f x ≡ passes) → each f xs ≡ passes
    unfolding each
    each_to [] h = refl
    each_to (y ∷ xs) h = neither (h y (Memᴰ.head refl)) (each_to xs (λ x q. h x (Memᴰ.tail q)))

    pub each_refused : (xs : List A) {r : R} → each f xs ≡ refuses r → (x : A) × Memᴰ x xs × (f x ≡ refuses r)
    unfolding each
    each_refused [] e = never (sym e)
    each_refused (y ∷ xs) e =
        ⊎_elim (λ p. (y, Memᴰ.head refl, p)) (λ p. let s = each_refused xs p in (s.0, Memᴰ.tail s.1, s.2)) (either (f y) (each f xs) e)

  -- what holds of each refusal of all of them
  module _ (P : R → Type 0) where
    pub first_refusals : (f : ℕ → Test R) → ((i : ℕ) → Refusals P (f i)) → (n : ℕ) → Refusals P (first f n)
    unfolding first
    first_refusals f h zero = of_gives P tt
    first_refusals f h (suc n) = of_then P (first f n) (f n) (first_refusals f h n) (h n)

    pub each_refusals : {A : Type 0} (f : A → Test R) → ((x : A) → Refusals P (f x)) → (xs : List A) → Refusals P (each f xs)
    unfolding each
    each_refusals f h [] = of_gives P tt
    each_refusals f h (x ∷ xs) = of_then P (f x) (each f xs) (h x) (each_refusals f h xs)
