-- Lists of sets, and of sets of halves, that are the same below some index. Assumes nothing.
use mathlib.Core.Path.{◌≡◌, refl, sym, ap, ap₂, ◌∙◌}
use mathlib.Core.Bool.{Bool, true, false, ◌&&◌}
use mathlib.Core.List.{List}
use mathlib.Core.Logic.{⊎_elim}
use Prim.Native.Nat.{ℕ, zero, suc, ◌<◌}
use native.Mathlib.Nat.{eq-or-lt_of_le, le_of_suc-le-suc}
use native.Mathlib.Omega.{arith}
use borrow.Author.Tests.{eqb-true, eq-eqb}
use lib.Dec.{eqb}
use lib.ListN.{length, get_or}
use lib.Pointwise.{pointwise, bytes_decides}
use Rattle.std.proofs.lemmas.List.{ext_get_or}
use Rattle.std.proofs.lemmas.Bool.Decides.{same_from_decides}
use Rattle.bits.specs.Halves.{lower, upper, half_of, halves}
use Rattle.bits.specs.declared.halves.Halves.{Halves}
use Rattle.bits.proofs.Every.{both}
use Rattle.sweeps.specs.Sweeps.{same_halves, same_below}
use Rattle.sweeps.specs.Served.Tracks.{same_sets}

-- the same sets are equal at each index, and the other way round
pub sets_of : (n : ℕ) (a b : ℕ → ℕ) → same_sets n a b ≡ true → (j : ℕ) → j < n → a j ≡ b j
unfolding same_sets
sets_of zero a b e j l = absurd (omega arith)
sets_of (suc n) a b e j l =
    let s = both (same_sets n a b) (eqb (a n) (b n)) e in
    ⊎_elim (λ q. rw q (eqb-true (a n) (b n) s.1)) (λ k. sets_of n a b s.0 j k) (eq-or-lt_of_le (le_of_suc-le-suc l))

pub sets_to : (n : ℕ) (a b : ℕ → ℕ) → ((j : ℕ) → j < n → a j ≡ b j) → same_sets n a b ≡ true
unfolding same_sets
sets_to zero a b h = refl
sets_to (suc n) a b h = rw (sets_to n a b (λ j l. h j (omega arith)), eq-eqb (a n) (b n) (h n (omega arith)))

pub sets_ext : (n : ℕ) {a b c d : ℕ → ℕ} → ((i : ℕ) → i < n → a i ≡ c i) → ((i : ℕ) → i < n → b i ≡ d i) → same_sets n a b ≡ same_sets n c d
unfolding same_sets
sets_ext zero e f = refl
sets_ext (suc n) e f = rw (sets_ext n (λ i l. e i (omega arith)) (λ i l. f i (omega arith)), e n (omega arith), f n (omega arith))

-- what a comparison of two lists of one length says
pub lists_same : (xs ys : List ℕ) → length ys ≡ length xs → pointwise eqb xs ys ≡ same_sets (length xs) (λ j. get_or ys j 0) (λ j. get_or xs j 0)
lists_same xs ys e =
    let n = length xs in
    same_from_decides (pointwise eqb xs ys) (same_sets n (λ j. get_or ys j 0) (λ j. get_or xs j 0)) (bytes_decides xs ys) (
      λ s. ext_get_or 0 xs ys (sym e) (λ j l. sym (sets_of n (λ j. get_or ys j 0) (λ j. get_or xs j 0) s j l)),
      λ q. sets_to n (λ j. get_or ys j 0) (λ j. get_or xs j 0) (λ j l. ap (λ (x : List ℕ). get_or x j 0) (sym q)),
    )

-- sets of halves are the same where both halves are
pub same_by_halves : (n : ℕ) (a b : ℕ → Halves)
    → same_below n a b ≡ same_sets n (λ j. half_of lower (a j)) (λ j. half_of lower (b j)) && same_sets n (λ j. half_of upper (a j)) (λ j. half_of upper (b j))
unfolding same_below same_sets
same_by_halves zero a b = refl
same_by_halves (suc n) a b =
    ap (λ (x : Bool). x && same_halves (a n) (b n)) (same_by_halves n a b)
    ∙ regroup (same_sets n (λ j. half_of lower (a j)) (λ j. half_of lower (b j))) (same_sets n (λ j. half_of upper (a j)) (λ j. half_of upper (b j)))
    (eqb (a n).low (b n).low) (eqb (a n).high (b n).high)
  where
    regroup : (x y u v : Bool) → (x && y) && (u && v) ≡ (x && u) && (y && v)
    regroup true true u v = refl
    regroup true false true v = refl
    regroup true false false v = refl
    regroup false y u v = refl

pub same_of : (n : ℕ) (a b : ℕ → Halves) → same_below n a b ≡ true → (j : ℕ) → j < n → a j ≡ b j
same_of n a b e j l =
    let s = both (same_sets n (λ j. half_of lower (a j)) (λ j. half_of lower (b j))) _ (sym (same_by_halves n a b) ∙ e) in
    ap₂ halves (sets_of n (λ j. half_of lower (a j)) (λ j. half_of lower (b j)) s.0 j l) (sets_of n (λ j. half_of upper (a j)) (λ j. half_of upper (b j)) s.1 j l)

pub same_to : (n : ℕ) (a b : ℕ → Halves) → ((j : ℕ) → j < n → a j ≡ b j) → same_below n a b ≡ true
same_to n a b h =
    same_by_halves n a b
    ∙ ap₂ ◌&&◌ (sets_to n (λ j. half_of lower (a j)) (λ j. half_of lower (b j)) (λ j l. ap (half_of lower) (h j l)))
    (sets_to n (λ j. half_of upper (a j)) (λ j. half_of upper (b j)) (λ j l. ap (half_of upper) (h j l)))
