-- The rows by opcode: rows of an opcode stand side by side in the table, but for rows 64 to 73, which this order puts so.
use Rattle.std.specs.Prelude.{List, [], ◌∷◌, ℕ, zero, suc}
use Rattle.opcoderows.specs.Served.Keyed.{Keyed, keyed, lookup}
use Rattle.opcoderows.specs.declared.Run.{Run}

abbrev pub run : ℕ → ℕ → Run
run first count = record { first = first; count = count }

-- a run of no rows
abbrev pub no_run : Run
no_run = run 0 0

-- where the rows of an opcode stand in the order, and how many there are, by the opcode's slot
abbrev pub runs : List (Keyed Run)
runs =
    keyed 1 (run 0 1)
    ∷ keyed 3 (run 1 1)
    ∷ keyed 5 (run 2 1)
    ∷ keyed 7 (run 5 25)
    ∷ keyed 8 (run 30 10)
    ∷ keyed 9 (run 40 2)
    ∷ keyed 10 (run 42 11)
    ∷ keyed 12 (run 53 1)
    ∷ keyed 13 (run 54 1)
    ∷ keyed 15 (run 55 1)
    ∷ keyed 16 (run 56 1)
    ∷ keyed 17 (run 57 1)
    ∷ keyed 18 (run 58 2)
    ∷ keyed 20 (run 60 1)
    ∷ keyed 21 (run 61 1)
    ∷ keyed 22 (run 62 2)
    ∷ keyed 24 (run 64 2)
    ∷ keyed 25 (run 66 2)
    ∷ keyed 26 (run 68 2)
    ∷ keyed 27 (run 70 2)
    ∷ keyed 28 (run 72 2)
    ∷ keyed 29 (run 74 1)
    ∷ keyed 30 (run 75 1)
    ∷ keyed 31 (run 76 1)
    ∷ keyed 33 (run 3 1)
    ∷ keyed 34 (run 4 1)
    ∷ []

unfoldable pub run_at : ℕ → Run
run_at slot = lookup no_run runs slot

-- places 64 to 73 of the order
abbrev pub moved : List (Keyed ℕ)
moved =
    keyed 64 64
    ∷ keyed 65 67
    ∷ keyed 66 65
    ∷ keyed 67 68
    ∷ keyed 68 66
    ∷ keyed 69 69
    ∷ keyed 70 70
    ∷ keyed 71 72
    ∷ keyed 72 71
    ∷ keyed 73 73
    ∷ []

-- the row at a place of the order
unfoldable pub row_in : ℕ → ℕ
row_in place = lookup place moved place

-- the rows of a run
unfoldable pub listed : ℕ → ℕ → List ℕ
listed first zero = []
listed first (suc n) = row_in first ∷ listed (suc first) n
