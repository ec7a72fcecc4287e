-- The row that a word fits, found by going through the rows. Assumes nothing.
use mathlib.Core.Path.{◌≡◌, refl, sym}
use mathlib.Core.Bool.{Bool, true, false}
use mathlib.Core.List.{List, [], ◌∷◌}
use Prim.Native.Nat.{ℕ, zero, suc, ◌+◌, ◌<◌, ◌≤◌}
use native.Mathlib.Nat.{not-suc-le-zero, le_of_suc-le-suc, le_refl, zero-add}
use native.Mathlib.Omega.{arith}
use lib.ListN.{length, get_or}
use Rattle.bits.specs.Fields.{choose}
use Rattle.rows.specs.Rows.{Row, rows, row_of, no_row, row_count}
use Rattle.rows.specs.Layout.{fits, find}
use Rattle.rows.proofs.TableLaws.{in_table, count_rows}
use Rattle.rows.proofs.RowLaws.{one_row}

find_ge : (rs : List Row) (k w : ℕ) → k ≤ find rs k w
unfolding find
find_ge [] k w = le_refl k
find_ge (r ∷ rs) k w = go (fits r w) (find_ge rs (suc k) w)
  where
    go : (t : Bool) → suc k ≤ find rs (suc k) w → k ≤ choose t k (find rs (suc k) w)
    go true h = le_refl k
    go false h = omega arith

find_at : (rs : List Row) (k w n : ℕ) → find rs k w ≡ k + n → n < length rs → fits (get_or rs n no_row) w ≡ true
unfolding find
find_at [] k w n e h = absurd (not-suc-le-zero h)
find_at (r ∷ rs) k w zero e h = go (fits r w) refl e
  where
    go : (t : Bool) → fits r w ≡ t → choose t k (find rs (suc k) w) ≡ k + zero → fits r w ≡ true
    go true q d = q
    go false q d = absurd (omega (arith, find_ge rs (suc k) w))
find_at (r ∷ rs) k w (suc n) e h = go (fits r w) e (λ d. find_at rs (suc k) w n d (le_of_suc-le-suc h))
  where
    go : (t : Bool) → choose t k (find rs (suc k) w) ≡ k + suc n → (find rs (suc k) w ≡ suc k + n → fits (get_or rs n no_row) w ≡ true)
        → fits (get_or rs n no_row) w ≡ true
    go true d f = absurd (omega arith)
    go false d f = f (omega arith)

find_under : (rs : List Row) (k w n : ℕ) → n < length rs → fits (get_or rs n no_row) w ≡ true → find rs k w ≤ k + n
unfolding find
find_under [] k w n h e = absurd (not-suc-le-zero h)
find_under (r ∷ rs) k w zero h e = rw e (omega arith)
find_under (r ∷ rs) k w (suc n) h e = go (fits r w) (find_under rs (suc k) w n (le_of_suc-le-suc h) e)
  where
    go : (t : Bool) → find rs (suc k) w ≤ suc k + n → choose t k (find rs (suc k) w) ≤ k + suc n
    go true l = omega arith
    go false l = omega arith

-- a word that fits a row is found at it or before
pub find_below : (w k : ℕ) → k < row_count → fits (row_of k) w ≡ true → find rows 0 w ≤ k
find_below w k h e = omega (arith, find_under rows 0 w k (in_table k h) e)

-- the row that was found fits
pub find_fits : (w : ℕ) → find rows 0 w < row_count → fits (row_of (find rows 0 w)) w ≡ true
find_fits w h = find_at rows 0 w (find rows 0 w) (sym (zero-add _)) (in_table _ h)

find_most : (rs : List Row) (k w : ℕ) → find rs k w ≤ k + length rs
unfolding find
find_most [] k w = omega arith
find_most (r ∷ rs) k w = go (fits r w) (find_most rs (suc k) w)
  where
    go : (t : Bool) → find rs (suc k) w ≤ suc k + length rs → choose t k (find rs (suc k) w) ≤ k + suc (length rs)
    go true h = omega arith
    go false h = omega arith

pub find_le : (w : ℕ) → find rows 0 w ≤ row_count
find_le w = omega (arith, find_most rows 0 w, count_rows)

-- the row that fits is found
pub find_row : (w k : ℕ) → k < row_count → fits (row_of k) w ≡ true → find rows 0 w ≡ k
find_row w k h e =
    let l : find rows 0 w < row_count = omega (arith, find_below w k h e) in
    one_row w (find rows 0 w) k l h (find_fits w l) e
