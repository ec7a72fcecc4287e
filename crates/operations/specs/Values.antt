-- What a source is worth when an instruction runs (02, Item 8; 01, The frame).
use Rattle.std.specs.Prelude.{List, ℕ, get_or}
use Rattle.rows.specs.Sources.{Meaning, register_read, register_released, uniform, immediate, special, refused}

-- the number that a source holds, from the registers' contents and the uniforms. Reading a register for the last time is reading it: a
-- release leaves the contents. What is refused before step one is worth 0: a special constant, and a uniform past the list.
abbrev pub worth : List ℕ → List ℕ → Meaning → ℕ
worth registers uniforms (register_read r) = get_or registers r 0
worth registers uniforms (register_released r) = get_or registers r 0
worth registers uniforms (uniform u) = get_or uniforms u 0
worth registers uniforms (immediate v) = v
worth registers uniforms (special s p) = 0
worth registers uniforms refused = 0
