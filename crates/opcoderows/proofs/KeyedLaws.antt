-- What is found under a key, and what a `match` says of a number. Assumes nothing.
use mathlib.Core.Path.{◌≡◌, refl, sym, ap, ◌∙◌, subst}
use mathlib.Core.Bool.{Bool, true, false, ◌&&◌, ◌||◌}
use mathlib.Core.List.{List, [], ◌∷◌}
use Prim.Native.Nat.{ℕ, ◌≤◌}
use native.Mathlib.Omega.{arith}
use lib.Dec.{T, eqb, ltb, ltb→lt}
use borrow.Author.Tests.{eqb-true, ne_eqb}
use Rattle.bits.specs.Fields.{choose}
use Rattle.bits.proofs.Every.{and_l, and_r, clash}
use Rattle.opcoderows.specs.Served.Keyed.{Keyed, lookup}

-- ---- a number that a `match` lists, and one that it does not

pub told : {A : Type 0} (f : ℕ → A) (h k : ℕ) {x : A} → h ≡ k → x ≡ f k → x ≡ f h
told f h k e q = q ∙ sym (ap f e)

abbrev pub Missed : {A : Type 0} → Type 0 → List (Keyed A) → ℕ → Type 0
Missed P [] k = P
Missed P (x ∷ xs) k = Missed (P × (k ≡ x.key → ⊥)) xs k

missed : {A : Type 0} (d : A) (P : Type 0) (xs : List (Keyed A)) (k : ℕ) → Missed P xs k → P × (lookup d xs k ≡ d)
missed d P [] k m = (m, refl)
missed d P (x ∷ xs) k m =
    let r = missed d (P × (k ≡ x.key → ⊥)) xs k m in
    (r.0.0, rw (ne_eqb k x.key r.0.1) r.1)

pub unlisted : {A : Type 0} (d : A) (xs : List (Keyed A)) (k : ℕ) → Missed (Unit {0}) xs k → lookup d xs k ≡ d
unlisted d xs k m = (missed d (Unit {0}) xs k m).1

-- ---- one test of a list's entries

-- the list has the key
abbrev pub keeps : {A : Type 0} → List (Keyed A) → ℕ → Bool
keeps [] k = false
keeps (x ∷ xs) k = eqb k x.key || keeps xs k

-- each key and its value pass
abbrev pub tested : {A : Type 0} → (ℕ → A → Bool) → List (Keyed A) → Bool
tested t [] = true
tested t (x ∷ xs) = t x.key x.value && tested t xs

-- a list whose keys are below n has none from n on
abbrev pub below : {A : Type 0} → ℕ → ℕ → A → Bool
below n k a = ltb k n

pub keeps_below : {A : Type 0} (n : ℕ) (xs : List (Keyed A)) → T (tested (below n) xs) → (h : ℕ) → n ≤ h → keeps xs h ≡ false
keeps_below n [] t h l = refl
keeps_below n (x ∷ xs) t h l =
    let k = ltb→lt x.key n (and_l (ltb x.key n) (tested (below n) xs) t) in
    rw (ne_eqb h x.key (λ e. absurd (omega (arith, e)))) (keeps_below n xs (and_r (ltb x.key n) (tested (below n) xs) t) h l)

module _ {A : Type 0} (t : ℕ → A → Bool) (d : A) where
  pub lookup_in : (xs : List (Keyed A)) (k : ℕ) → T (tested t xs) → keeps xs k ≡ true → T (t k (lookup d xs k))
  lookup_in [] k p e = clash (sym e)
  lookup_in (x ∷ xs) k p e = go (eqb k x.key) refl e (lookup_in xs k (and_r (t x.key x.value) (tested t xs) p))
    where
      go : (b : Bool) → eqb k x.key ≡ b → b || keeps xs k ≡ true → (keeps xs k ≡ true → T (t k (lookup d xs k))) → T (t k (choose b x.value (lookup d xs k)))
      go true q y f = subst (λ (n : ℕ). T (t n x.value)) (sym (eqb-true k x.key q)) (and_l (t x.key x.value) (tested t xs) p)
      go false q y f = f y

  pub lookup_out : (xs : List (Keyed A)) (k : ℕ) → keeps xs k ≡ false → lookup d xs k ≡ d
  lookup_out [] k e = refl
  lookup_out (x ∷ xs) k e = go (eqb k x.key) e (lookup_out xs k)
    where
      go : (b : Bool) → b || keeps xs k ≡ false → (keeps xs k ≡ false → lookup d xs k ≡ d) → choose b x.value (lookup d xs k) ≡ d
      go true y f = clash y
      go false y f = f y

  -- what is found under a key passes, if what stands for the others does
  pub lookup_passes : (xs : List (Keyed A)) (k : ℕ) → T (tested t xs) → T (t k d) → T (t k (lookup d xs k))
  lookup_passes xs k p pd = go (keeps xs k) refl
    where
      go : (b : Bool) → keeps xs k ≡ b → T (t k (lookup d xs k))
      go true e = lookup_in xs k p e
      go false e = subst (λ (a : A). T (t k a)) (sym (lookup_out xs k e)) pd
