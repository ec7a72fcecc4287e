-- The k-th of a list. Assumes nothing.
use Rattle.std.specs.Prelude.{None}
use mathlib.Core.Path.{◌≡◌, refl}
use mathlib.Core.List.{List, [], ◌∷◌}
use Prim.Native.Nat.{ℕ, zero, suc, ◌≤◌}
use native.Mathlib.Nat.{not-suc-le-zero, le_of_suc-le-suc}
use lib.ListN.{length}
use Rattle.bits.proofs.OptionLaws.{Some-ne-None}
use Rattle.bits.specs.Lists.{kth}

pub kth_past : {A : Type 0} (xs : List A) (k : ℕ) → length xs ≤ k → kth xs k ≡ None
unfolding kth
kth_past [] k h = refl
kth_past (x ∷ xs) zero h = absurd (not-suc-le-zero h)
kth_past (x ∷ xs) (suc k) h = kth_past xs k (le_of_suc-le-suc h)

pub kth_stays : {A : Type 0} (xs : List A) (j k : ℕ) → kth xs j ≡ None → j ≤ k → kth xs k ≡ None
unfolding kth
kth_stays [] j k e h = refl
kth_stays (x ∷ xs) zero k e h = absurd (Some-ne-None x e)
kth_stays (x ∷ xs) (suc j) zero e h = absurd (not-suc-le-zero h)
kth_stays (x ∷ xs) (suc j) (suc k) e h = kth_stays xs j k e (le_of_suc-le-suc h)
