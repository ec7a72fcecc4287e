-- Lists that are equally long, one after another. Assumes nothing.
use mathlib.Core.Path.{◌≡◌}
use mathlib.Core.Bool.{Bool}
use mathlib.Core.List.{List, [], ◌∷◌, ◌++◌, flatten}
use Prim.Native.Nat.{ℕ, zero, suc, ◌+◌, ◌-◌, ◌*◌, ◌<◌}
use native.Mathlib.Nat.{not-suc-le-zero, le_of_suc-le-suc}
use native.Mathlib.Omega.{arith}
use lib.Dec.{T, eqb, eqb→eq}
use lib.ListN.{length, take, drop, get_or}
use lib.Seq.{take_at, drop_at, drop-drop}
use Rattle.bits.proofs.Every.{every, and_l, and_r}

-- a list has n elements
abbrev pub sized : ℕ → ℕ → List ℕ → Bool
sized n i s = eqb (length s) n

block : (n : ℕ) (xs : List (List ℕ)) (i k : ℕ) → T (every (sized n) i xs) → k < length xs → take n (drop (k * n) (flatten xs)) ≡ get_or xs k []
unfolding flatten
block n [] i k t h = absurd (not-suc-le-zero h)
block n (x ∷ xs) i zero t h =
    let l = eqb→eq (length x) n (and_l (sized n i x) (every (sized n) (suc i) xs) t) in
    let z : zero * n ≡ 0 = omega arith in
    rw z (take_at x (flatten xs) n l)
block n (x ∷ xs) i (suc k) t h =
    let l = eqb→eq (length x) n (and_l (sized n i x) (every (sized n) (suc i) xs) t) in
    let e : suc k * n ≡ n + k * n = omega arith in
    rw (e, ← drop-drop (k * n) n (x ++ flatten xs), drop_at x (flatten xs) n l)
    (block n xs (suc i) k (and_r (sized n i x) (every (sized n) (suc i) xs) t) (le_of_suc-le-suc h))

-- what code takes for list k: from k * n on, and up to k * n + n
abbrev pub part : ℕ → ℕ → List ℕ → List ℕ
part n k l = take (k * n + n - k * n) (drop (k * n) l)

pub part_is : (n : ℕ) (xs : List (List ℕ)) (k : ℕ) → T (every (sized n) 0 xs) → k < length xs → part n k (flatten xs) ≡ get_or xs k []
part_is n xs k t h =
    let e : k * n + n - k * n ≡ n = omega arith in
    rw e (block n xs 0 k t h)
