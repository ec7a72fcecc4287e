-- A branch's target, from a signed offset to an index. Assumes nothing.
use mathlib.Core.Path.{◌≡◌, refl, ap, ◌∙◌}
use mathlib.Core.Bool.{true, false}
use Prim.Native.Nat.{ℕ, suc, ◌+◌, ◌-◌, ◌^◌, ◌<◌, ◌≤◌}
use native.Mathlib.Omega.{arith}
use borrow.Author.Tests.{lt-ltb, le-ltb}
use lib.IntN.{ℤ, pos, negsuc, ◌+ℤ◌, ◌-ℤ◌}
use lib.Signed.{lt_z}
use mir.Syntax.{w32}
use mir.Val.{SFits, of_z, to_z}
use mir.ValLaws.{to_z-of_z}
use Rattle.safety.specs.Program.{landing}

-- z as the machine reads it back from its bits
abbrev back : ℤ → ℤ
back z = to_z w32 (of_z w32 z)

-- -1 less a negative number
flip : (k : ℕ) → negsuc 0 -ℤ negsuc k ≡ pos k
flip k = rw (le-ltb (suc k) 1 (omega arith)) (ap pos (omega arith))

-- an offset -1 - k, as the code turns it into k
pub record Backward (z : ℤ) : Type 0 where
  pub k : ℕ
  pub small : k < 2 ^ 31
  pub is : z ≡ negsuc k
  pub fits : SFits w32 (negsuc 0 -ℤ back z)
  pub reads : back (negsuc 0 -ℤ back z) ≡ pos k

pub backward : (z : ℤ) → SFits w32 z → lt_z (back z) (pos 0) ≡ true → Backward z
backward z f t = go z f (rw (to_z-of_z w32 z f) at t) (to_z-of_z w32 z f)
  where
    go : (z : ℤ) → SFits w32 z → lt_z z (pos 0) ≡ true → back z ≡ z → Backward z
    go (pos k) f t e = absurd (let z : ◌≡◌ {A = ℕ} 0 1 = cc (le-ltb k 0 (omega arith)) in omega arith)
    go (negsuc k) f t e =
        let q : negsuc 0 -ℤ back (negsuc k) ≡ pos k = ap (λ (y : ℤ). negsuc 0 -ℤ y) e ∙ flip k in
        let s : SFits w32 (pos k) = record { sfits = f.sfits } in
        let u : SFits w32 (negsuc 0 -ℤ back (negsuc k)) = rw q s in
        record { k = k; small = f.sfits; is = refl; fits = u; reads = to_z-of_z w32 (negsuc 0 -ℤ back (negsuc k)) u ∙ q }

-- an offset k
pub record Forward (z : ℤ) : Type 0 where
  pub k : ℕ
  pub small : k < 2 ^ 31
  pub is : z ≡ pos k
  pub reads : back z ≡ pos k

pub forward : (z : ℤ) → SFits w32 z → lt_z (back z) (pos 0) ≡ false → Forward z
forward z f t = go z f (rw (to_z-of_z w32 z f) at t) (to_z-of_z w32 z f)
  where
    go : (z : ℤ) → SFits w32 z → lt_z z (pos 0) ≡ false → back z ≡ z → Forward z
    go (pos k) f t e = record { k = k; small = f.sfits; is = refl; reads = e }
    go (negsuc k) f t e = absurd (let z : ◌≡◌ {A = ℕ} 0 1 = cc in omega arith)

-- where it lands
module _ (i k n : ℕ) where
  pub before_start : i < k → n ≡ landing n (pos (i + 1) +ℤ negsuc k)
  unfolding landing
  before_start h = rw (lt-ltb (i + 1) (suc k) (omega arith))

  module _ (h : k ≤ i) where
    backs : pos (i + 1) +ℤ negsuc k ≡ pos (i - k)
    backs = rw (le-ltb (i + 1) (suc k) (omega arith)) (ap pos (omega arith))

    pub back_on : i - k < n → i - k ≡ landing n (pos (i + 1) +ℤ negsuc k)
    unfolding landing
    back_on l = rw (backs, lt-ltb (i - k) n l)

    pub back_past : n ≤ i - k → n ≡ landing n (pos (i + 1) +ℤ negsuc k)
    unfolding landing
    back_past l = rw (backs, le-ltb (i - k) n l)

  pub on_inside : i + 1 + k < n → i + 1 + k ≡ landing n (pos (i + 1) +ℤ pos k)
  unfolding landing
  on_inside h = rw (lt-ltb (i + 1 + k) n h)

  pub on_past : n ≤ i + 1 + k → n ≡ landing n (pos (i + 1) +ℤ pos k)
  unfolding landing
  on_past h = rw (le-ltb (i + 1 + k) n h)
