-- What an operand is worth is what its source is worth. Assumes nothing.
use mathlib.Core.Path.{◌≡◌, refl}
use mathlib.Core.List.{List}
use Prim.Native.Nat.{ℕ}
use Rattle.rows.specs.Sources.{Meaning, register_read, register_released, uniform, immediate, special, refused}
use Rattle.operations.specs.Values.{worth}
use Rattle.operations.specs.Served.Operations.{operand_of, operand_worth}

pub worth_same : (registers uniforms : List ℕ) (m : Meaning) → operand_worth registers (operand_of uniforms m) ≡ worth registers uniforms m
unfolding operand_worth
worth_same registers uniforms (register_read r) = refl
worth_same registers uniforms (register_released r) = refl
worth_same registers uniforms (uniform u) = refl
worth_same registers uniforms (immediate v) = refl
worth_same registers uniforms (special s p) = refl
worth_same registers uniforms refused = refl
