-- Laws of outcomes, and what holds of every refusal of one. Assumes nothing.
use mathlib.Core.Path.{◌≡◌, refl, sym, ap, subst, ◌∙◌}
use mathlib.Core.Bool.{Bool, true, false}
use mathlib.Core.Logic.{◌⊎◌, inl, inr}
use Prim.Native.Nat.{ℕ, ◌≤◌}
use native.Mathlib.Omega.{arith}
use Rattle.std.specs.Prelude.{Result, Err, IsErrAnd}
use Rattle.std.specs.Result.{IsErr}
use Rattle.std.proofs.lemmas.Result.{err_from_is_err_and}
use Rattle.bits.specs.Outcomes.{Outcome, gives, refuses, passes, require, ◌then◌}

-- what is returned where a `?` leaves: the refusal that it met, and the whole is that refusal, or goes on
module _ {R A : Type 0} where
  pub left_by : (r : Result A R) {f : R} → IsErr r × IsErrAnd r (λ g. g ≡ f) → r ≡ Err f
  left_by r e = let p = err_from_is_err_and r e.1 in p.1 ∙ ap Err p.2

  pub stops : {a : Outcome R (Unit {0})} (b : Outcome R A) {r : R} → refuses r ≡ a → (a then b) ≡ refuses r
  unfolding ◌then◌
  stops b e = rw (← e) refl

  pub goes_on : {a : Outcome R (Unit {0})} (b : Outcome R A) → passes ≡ a → (a then b) ≡ b
  unfolding ◌then◌
  goes_on b e = rw (← e) refl

module _ {R A : Type 0} where
  -- a refusal gives nothing
  pub never : {X : Type 0} {r : R} {a : A} → ◌≡◌ {A = Outcome R A} (refuses r) (gives a) → X
  never e = let z : ◌≡◌ {A = ℕ} 0 1 = cc in absurd (omega arith)

  -- where the whole gives something, neither part refused
  pub then_gives : (a : Outcome R (Unit {0})) (b : Outcome R A) (x : A) → (a then b) ≡ gives x → (a ≡ passes) × (b ≡ gives x)
  unfolding ◌then◌
  then_gives (gives tt) b x e = (refl, e)
  then_gives (refuses r) b x e = never e

  pub then_passed : {a : Outcome R (Unit {0})} (b : Outcome R A) → a ≡ passes → (a then b) ≡ b
  unfolding ◌then◌
  then_passed b e = rw e

  pub then_refused : {a : Outcome R (Unit {0})} (b : Outcome R A) {r : R} → a ≡ refuses r → (a then b) ≡ refuses r
  unfolding ◌then◌
  then_refused b e = rw e

module _ {R A : Type 0} where
  -- a refusal of the whole is one of a part
  pub then_refuses : (a : Outcome R (Unit {0})) (b : Outcome R A) (r : R) → (a then b) ≡ refuses r → (a ≡ refuses r) ⊎ (b ≡ refuses r)
  unfolding ◌then◌
  then_refuses (gives tt) b r e = inr e
  then_refuses (refuses q) b r e = inl (same e)
    where
      same : ◌≡◌ {A = Outcome R A} (refuses q) (refuses r) → ◌≡◌ {A = Outcome R (Unit {0})} (refuses q) (refuses r)
      same d = ap refuses cc

pub required : {R : Type 0} (t : Bool) (r : R) → require t r ≡ passes → t ≡ true
required true r e = refl
required false r e = never e

pub told : {R A : Type 0} {x y : R} → ◌≡◌ {A = Outcome R A} (refuses x) (refuses y) → x ≡ y
told e = cc

-- P holds of each refusal; what holds of each refusal of both parts holds of each refusal of the whole
module _ {R : Type 0} (P : R → Type 0) where
  abbrev pub Refusals : {A : Type 0} → Outcome R A → Type 0
  Refusals o = (r : R) → o ≡ refuses r → P r

  pub of_gives : {A : Type 0} (a : A) → Refusals (gives a)
  of_gives a r e = never (sym e)

  pub of_refuses : {A : Type 0} (x : R) → P x → Refusals {A = A} (refuses x)
  of_refuses x p r e = subst P (told e) p

  pub of_require : (t : Bool) (x : R) → P x → Refusals (require t x)
  of_require true x p = of_gives tt
  of_require false x p = of_refuses x p

  pub of_then : {A : Type 0} (a : Outcome R (Unit {0})) (b : Outcome R A) → Refusals a → Refusals b → Refusals (a then b)
  unfolding ◌then◌
  of_then (gives _) b f g = g
  of_then (refuses x) b f g = of_refuses x (f x refl)

  -- the refusal of a test is asked where the test fails, and the rest where it passes
  pub on_failed : {A : Type 0} (t : Bool) (x : R) → (t ≡ false → P x) → {b : Outcome R A} → (t ≡ true → Refusals b) → Refusals (require t x then b)
  unfolding ◌then◌
  on_failed true x p f = f refl
  on_failed false x p f = of_refuses x (p refl)

  pub on : (t : Bool) (x : R) → P x → {A : Type 0} {b : Outcome R A} → Refusals b → Refusals (require t x then b)
  on t x p {A} {b} f = of_then (require t x) b (of_require t x p) f

pub weaker : {R A : Type 0} {P Q : R → Type 0} {o : Outcome R A} → ((r : R) → P r → Q r) → Refusals P o → Refusals Q o
weaker h f r e = h r (f r e)

-- n is one of the numbers from a to b
abbrev pub Between : ℕ → ℕ → ℕ → Type 0
Between a b n = (a ≤ n) × (n ≤ b)

pub wider : {a b c d n : ℕ} → c ≤ a → b ≤ d → Between a b n → Between c d n
wider h l p = (omega (arith, h, p.0), omega (arith, l, p.1))
