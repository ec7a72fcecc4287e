-- The index by which a word's line is found: the opcode's slot leads to a group, and the secondary opcode from there to a cell.
use Rattle.std.specs.Prelude.{List, [], ◌∷◌, ℕ, ◌/◌, ◌%◌, ◌^◌}
use Rattle.std.specs.Int.Bits.{bit_and}
use Rattle.rows.specs.Rows.{row_count}
use Rattle.opcoderows.specs.Served.Keyed.{Keyed, keyed, lookup}
use Rattle.lookup.specs.declared.Group.{Group}

abbrev pub group : ℕ → ℕ → ℕ → ℕ → Group
group low mask seconds cell = record { low = low; mask = mask; seconds = seconds; cell = cell }

-- a cell that has no row
abbrev pub empty : ℕ
empty = 255

-- the groups by slot
abbrev pub groups : List (Keyed Group)
groups =
    keyed 1 (group 0 0 0x1 0)
    ∷ keyed 3 (group 0 0 0x1 1)
    ∷ keyed 5 (group 0 0 0x1 2)
    ∷ keyed 7 (group 16 31 0x56BFFEBF 5)
    ∷ keyed 8 (group 16 15 0x7771 37)
    ∷ keyed 9 (group 16 15 0x3 53)
    ∷ keyed 10 (group 16 15 0xF575 69)
    ∷ keyed 12 (group 16 15 0x1 85)
    ∷ keyed 13 (group 16 15 0x1 101)
    ∷ keyed 15 (group 0 0 0x1 117)
    ∷ keyed 16 (group 0 0 0x1 118)
    ∷ keyed 17 (group 0 0 0x1 119)
    ∷ keyed 18 (group 24 15 0x3 120)
    ∷ keyed 20 (group 0 0 0x1 136)
    ∷ keyed 21 (group 0 0 0x1 137)
    ∷ keyed 22 (group 24 15 0x3 138)
    ∷ keyed 24 (group 24 3 0x3 154)
    ∷ keyed 25 (group 24 3 0x3 158)
    ∷ keyed 26 (group 24 3 0x3 162)
    ∷ keyed 27 (group 24 3 0x3 166)
    ∷ keyed 28 (group 24 3 0x3 170)
    ∷ keyed 29 (group 24 3 0x1 174)
    ∷ keyed 30 (group 24 3 0x1 178)
    ∷ keyed 31 (group 24 3 0x1 182)
    ∷ keyed 33 (group 0 0 0x1 3)
    ∷ keyed 34 (group 0 0 0x1 4)
    ∷ []

unfoldable pub group_at : ℕ → Group
group_at slot = lookup (group 0 0 0 empty) groups slot

-- the row numbers by cell
abbrev pub cells : List (Keyed ℕ)
cells =
    keyed 0 0
    ∷ keyed 1 1
    ∷ keyed 2 2
    ∷ keyed 3 3
    ∷ keyed 4 4
    ∷ keyed 5 20
    ∷ keyed 6 21
    ∷ keyed 7 24
    ∷ keyed 8 25
    ∷ keyed 9 9
    ∷ keyed 10 10
    ∷ keyed 12 5
    ∷ keyed 14 7
    ∷ keyed 15 17
    ∷ keyed 16 19
    ∷ keyed 17 13
    ∷ keyed 18 28
    ∷ keyed 19 15
    ∷ keyed 20 29
    ∷ keyed 21 22
    ∷ keyed 22 23
    ∷ keyed 23 26
    ∷ keyed 24 27
    ∷ keyed 25 11
    ∷ keyed 26 12
    ∷ keyed 28 6
    ∷ keyed 30 8
    ∷ keyed 31 18
    ∷ keyed 33 14
    ∷ keyed 35 16
    ∷ keyed 37 30
    ∷ keyed 41 31
    ∷ keyed 42 32
    ∷ keyed 43 33
    ∷ keyed 45 34
    ∷ keyed 46 35
    ∷ keyed 47 36
    ∷ keyed 49 37
    ∷ keyed 50 38
    ∷ keyed 51 39
    ∷ keyed 53 40
    ∷ keyed 54 41
    ∷ keyed 69 42
    ∷ keyed 71 43
    ∷ keyed 73 49
    ∷ keyed 74 50
    ∷ keyed 75 51
    ∷ keyed 77 44
    ∷ keyed 79 45
    ∷ keyed 81 46
    ∷ keyed 82 52
    ∷ keyed 83 47
    ∷ keyed 84 48
    ∷ keyed 85 53
    ∷ keyed 101 54
    ∷ keyed 117 55
    ∷ keyed 118 56
    ∷ keyed 119 57
    ∷ keyed 120 58
    ∷ keyed 121 59
    ∷ keyed 136 60
    ∷ keyed 137 61
    ∷ keyed 138 62
    ∷ keyed 139 63
    ∷ keyed 154 64
    ∷ keyed 155 67
    ∷ keyed 158 65
    ∷ keyed 159 68
    ∷ keyed 162 66
    ∷ keyed 163 69
    ∷ keyed 166 70
    ∷ keyed 167 72
    ∷ keyed 170 71
    ∷ keyed 171 73
    ∷ keyed 174 74
    ∷ keyed 178 75
    ∷ keyed 182 76
    ∷ []

-- in an empty cell, the number past the last row's
unfoldable pub row_under : ℕ → ℕ
row_under cell = lookup row_count cells cell

-- a word's secondary opcode, where the group says that it stands
abbrev pub second_of : Group → ℕ → ℕ
second_of g w = bit_and (w / 2 ^ (g.low % 64)) g.mask
