-- The table of numbers says what the rows say. Assumes nothing.
use mathlib.Core.Path.{◌≡◌, refl, sym, subst}
use mathlib.Core.List.{List, [], ◌∷◌, map}
use Prim.Native.Nat.{ℕ, zero, suc, ◌<◌}
use native.Mathlib.Nat.{not-suc-le-zero, le_of_suc-le-suc}
use lib.ListN.{length, get_or}
use Rattle.rows.specs.Rows.{rows, row_of, no_row, row_count}
use Rattle.rows.specs.Served.Table.{table, row_words}
use Rattle.rows.specs.declared.table.Row.{Row as Words}

-- the element of a mapped list, inside it, whatever the default
pub get_or_map_in : {A B : Type 0} (f : A → B) (xs : List A) (k : ℕ) (d : A) (e : B) → k < length xs → get_or (map f xs) k e ≡ f (get_or xs k d)
get_or_map_in f [] k d e h = absurd (not-suc-le-zero h)
get_or_map_in f (x ∷ xs) zero d e h = refl
get_or_map_in f (x ∷ xs) (suc k) d e h = get_or_map_in f xs k d e (le_of_suc-le-suc h)

-- ---- the lines of the table

pub count_rows : length rows ≡ row_count
unfolding rows
count_rows = refl

pub in_table : (k : ℕ) → k < row_count → k < length rows
in_table k h = subst (λ (n : ℕ). k < n) (sym count_rows) h

-- the numbers of row k, whatever stands past the table's end
pub row_line : (k : ℕ) (past : Words) → k < row_count → get_or table k past ≡ row_words (row_of k)
unfolding table
row_line k past h = get_or_map_in row_words rows k no_row past (in_table k h)
