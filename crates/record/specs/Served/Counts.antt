-- How many sources the rows have, sixteen rows to a number.
use Rattle.std.specs.Prelude.{[], ◌∷◌, map, ℕ, ◌+◌, ◌*◌, get_or}
use Rattle.rows.specs.Rows.{row_of}
use Rattle.rows.specs.Served.Table.{pack}

-- of rows 16g to 16g + 15, four bits each
abbrev pub counts_of : ℕ → ℕ
counts_of g = pack 16 (map (λ (j : ℕ). (row_of (16 * g + j)).sources) (0 ∷ 1 ∷ 2 ∷ 3 ∷ 4 ∷ 5 ∷ 6 ∷ 7 ∷ 8 ∷ 9 ∷ 10 ∷ 11 ∷ 12 ∷ 13 ∷ 14 ∷ 15 ∷ []))

unfoldable pub counts_at : ℕ → ℕ
counts_at g = get_or (map counts_of (0 ∷ 1 ∷ 2 ∷ 3 ∷ 4 ∷ [])) g 0
