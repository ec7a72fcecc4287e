-- Looking for the lowest number of which a test holds, one by one. Assumes nothing.
use mathlib.Core.Path.{◌≡◌, refl, sym, ap, ◌∙◌}
use mathlib.Core.Bool.{Bool, true, false}
use mathlib.Core.Logic.{◌⊎◌, ⊎_elim}
use Prim.Native.Nat.{ℕ, suc, ◌+◌, ◌-◌, ◌≤◌, ◌<◌}
use native.Mathlib.Omega.{arith}
use native.Mathlib.Nat.{eq-or-lt_of_le}
use native.Mathlib.Numerals.{add-one}
use Rattle.std.specs.Prelude.{Option, None, Some}
use Rattle.bits.specs.Fields.{choose}
use lib.Dec.{ltb}
use borrow.Author.Tests.{ltb-true, ltb-false}
use Rattle.bits.specs.Sets.{lowest_from}
use Rattle.trace.specs.Trace.{below_64}

module _ (test : ℕ → Bool) where
  pub lowest_hit : (i n : ℕ) → i < n → test i ≡ true → lowest_from test (n - i) i ≡ i
  unfolding lowest_from
  lowest_hit i n h e =
      let s : n - i ≡ suc (n - (i + 1)) = omega arith in
      ap (λ (m : ℕ). lowest_from test m i) s ∙ rw e

  pub lowest_miss : (i n : ℕ) → i < n → test i ≡ false → lowest_from test (n - i) i ≡ lowest_from test (n - (i + 1)) (i + 1)
  unfolding lowest_from
  lowest_miss i n h e =
      let s : n - i ≡ suc (n - (i + 1)) = omega arith in
      ap (λ (m : ℕ). lowest_from test m i) s ∙ rw (e, add-one)

  pub lowest_end : (i n : ℕ) → n ≤ i → lowest_from test (n - i) i ≡ i
  unfolding lowest_from
  lowest_end i n h =
      let s : n - i ≡ 0 = omega arith in
      ap (λ (m : ℕ). lowest_from test m i) s

-- so far none differs, if none was counted
abbrev pub NoneBelow : (ℕ → Bool) → ℕ → ℕ → Type 0
NoneBelow test n r = n ≡ 0 → (q : ℕ) → q < r → test q ≡ false

pub none_more : (test : ℕ → Bool) (n r d : ℕ) → NoneBelow test n r → (d ≡ 0 → test r ≡ false) → NoneBelow test (n + d) (r + 1)
none_more test n r d h e z q l = ⊎_elim (λ s. rw s (e (omega arith))) (λ m. h (omega arith) q m) (split q l)
  where
    split : (q : ℕ) → q < r + 1 → (q ≡ r) ⊎ (q < r)
    split q l = eq-or-lt_of_le (omega arith)

-- the register of a number, if it is one
pub register_is : (d : ℕ) {r : ℕ} {o : Option ℕ} → o ≡ below_64 d → o ≡ Some r → (d ≡ r) × (d < 64)
register_is d {r} e p = go (ltb d 64) refl (sym e ∙ p)
  where
    go : (t : Bool) → ltb d 64 ≡ t → choose t (Some d) None ≡ Some r → (d ≡ r) × (d < 64)
    go true f q = (cc, ltb-true d 64 f)
    go false f q = absurd (let z : ◌≡◌ {A = ℕ} 0 1 = cc in omega arith)

pub no_register : (d : ℕ) {o : Option ℕ} → o ≡ below_64 d → o ≡ None → 64 ≤ d
no_register d e p = go (ltb d 64) refl (sym e ∙ p)
  where
    go : (t : Bool) → ltb d 64 ≡ t → choose t (Some d) None ≡ None → 64 ≤ d
    go true f q = absurd (let z : ◌≡◌ {A = ℕ} 0 1 = cc in omega arith)
    go false f q = ltb-false d 64 f
