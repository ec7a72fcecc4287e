-- That `Some` tells what it holds, and is not `None`.
use mathlib.Core.Path.{◌≡◌, sym}
use native.Mathlib.Omega.{arith}
use Rattle.std.specs.Prelude.{Some, None}

pub Some-injective : {A : Type 0} (x y : A) → Some x ≡ Some y → x ≡ y
Some-injective x y e = grind arith

pub Some-ne-None : {A : Type 0} (x : A) → Some x ≡ None → ⊥
Some-ne-None x e = grind arith

pub None-ne-Some : {A : Type 0} (x : A) → None ≡ Some x → ⊥
None-ne-Some x e = Some-ne-None x (sym e)
