-- A number that is none of those that a `match` lists from 0 on. Assumes nothing.
use mathlib.Core.Path.{◌≡◌}
use Prim.Native.Nat.{ℕ, zero, suc, ◌≤◌}
use native.Mathlib.Omega.{arith}

abbrev pub NoneBelow : ℕ → ℕ → Type 0
NoneBelow zero k = Unit {0}
NoneBelow (suc n) k = NoneBelow n k × (k ≡ n → ⊥)

pub beyond : (n k : ℕ) → NoneBelow n k → n ≤ k
beyond zero k m = omega arith
beyond (suc n) k m = omega (arith, beyond n k m.0, m.1)
