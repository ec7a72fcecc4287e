-- The modifiers of a record by the numbers of its row's line: whether they have room, and how they stand in a word.
use Rattle.std.specs.Prelude.{Bool, true, ◌&&◌, List, [], ◌∷◌, map, ℕ, suc, ◌*◌, ◌^◌, ltb}
use Rattle.bits.specs.Fields.{slot, bits, join}
use Rattle.rows.specs.Layout.{modifier_lows}

-- the modifiers from j on have room, by the row's widths, four bits each
unfoldable pub narrow : ℕ → ℕ → List ℕ → Bool
narrow widths j [] = true
narrow widths j (v ∷ vs) = ltb v (2 ^ bits widths (4 * j) 3) && narrow widths (suc j) vs

-- each modifier at its lowest bit
abbrev pub modifier_word : List ℕ → ℕ
modifier_word m = join (map (λ (p : ℕ). slot p 0) modifier_lows) m
