-- The modifiers of a word by the widths of its row's.
use Rattle.std.specs.Prelude.{List, [], ◌∷◌, ℕ, suc, ◌*◌}
use Rattle.bits.specs.Fields.{bits}
use Rattle.rows.specs.Layout.{modifier_lows}

-- modifier j, whose lowest bit is p
abbrev pub modifier_in : ℕ → ℕ → ℕ → ℕ → ℕ
modifier_in widths w p j = bits w p (bits widths (4 * j) 3)

abbrev pub modifiers_from : ℕ → ℕ → List ℕ → ℕ → List ℕ
modifiers_from widths w [] j = []
modifiers_from widths w (p ∷ ps) j = modifier_in widths w p j ∷ modifiers_from widths w ps (suc j)

unfoldable pub modifiers_in : ℕ → ℕ → List ℕ
modifiers_in widths w = modifiers_from widths w modifier_lows 0
