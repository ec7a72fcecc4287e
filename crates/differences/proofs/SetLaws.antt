-- The sets that are compared. Assumes nothing.
use mathlib.Core.Path.{◌≡◌}
use mathlib.Core.Bool.{Bool, true, false, ◌&&◌}
use mathlib.Core.List.{List}
use Prim.Native.Nat.{ℕ}
use lib.Dec.{eqb}
use Rattle.bits.specs.Fields.{choose}
use Rattle.differences.specs.Sets.{the_one, low_and_high, sets_of}

-- what holds of the one set, and of low and high, holds of the sets of two versions
pub by_sets : (P : List ℕ → Type 0) → P the_one → P low_and_high → (v w : ℕ) → P (sets_of v w)
unfolding sets_of
by_sets P one two v w = go (eqb v 1 && eqb w 1)
  where
    go : (t : Bool) → P (choose t the_one low_and_high)
    go true = one
    go false = two

-- which it is
module _ (v w : ℕ) where
  pub one_set : (eqb v 1 && eqb w 1) ≡ true → sets_of v w ≡ the_one
  unfolding sets_of
  one_set e = rw e

  pub two_sets : (eqb v 1 && eqb w 1) ≡ false → sets_of v w ≡ low_and_high
  unfolding sets_of
  two_sets e = rw e
