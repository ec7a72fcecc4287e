-- Lists, asked for one entry at a time.
use Rattle.std.specs.Prelude.{List, [], ◌∷◌, ℕ, zero, suc, Option, None, Some}

-- the k-th of a list, from 0, or none
unfoldable pub kth : {A : Type 0} → List A → ℕ → Option A
kth [] k = None
kth (x ∷ xs) zero = Some x
kth (x ∷ xs) (suc k) = kth xs k
