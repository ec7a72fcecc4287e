-- The default sources of a row (02, Item 6) by its shape.
use Rattle.std.specs.Prelude.{List, [], ◌∷◌, ℕ, ◌*◌}
use Rattle.bits.specs.Fields.{bits}

-- the source whose byte stands from bit `low` up: the shape has 1 there where the row has it
abbrev pub default_source : ℕ → ℕ → ℕ
default_source shape low = 0xC0 * bits shape low 1

abbrev pub default_sources_in : ℕ → List ℕ
default_sources_in shape = default_source shape 0 ∷ default_source shape 8 ∷ default_source shape 16 ∷ default_source shape 24 ∷ []
