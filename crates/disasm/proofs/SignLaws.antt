-- A number with its sign, from the bits that the machine has for it. Assumes nothing.
use mathlib.Core.Path.{◌≡◌, refl, sym, ap, ◌∙◌}
use mathlib.Core.Bool.{true, false}
use mathlib.Core.List.{◌++◌}
use lib.Dec.{leb-zero}
use lib.IntN.{ℤ, pos, negsuc, nat_abs}
use lib.Signed.{le_z}
use mir.Syntax.{w32}
use mir.Val.{SFits, to_z, of_z}
use mir.ValLaws.{to_z-of_z}
use Rattle.bits.proofs.Every.{clash}
use Rattle.rows.specs.Names.{ascii}
use Rattle.text.specs.Text.{number_text}
use Rattle.disasm.specs.Assembly.{signed_text}

-- from 0 up
pub from_0 : (y : ℤ) → le_z (pos 0) y ≡ true → number_text 10 10 (nat_abs y) ≡ signed_text y
unfolding signed_text
from_0 (pos n) p = refl
from_0 (negsuc n) p = clash (sym p)

-- below 0
pub below_0 : (y : ℤ) → le_z (pos 0) y ≡ false → ascii "-" ++ number_text 10 10 (nat_abs y) ≡ signed_text y
unfolding signed_text
below_0 (pos n) p = clash (sym (leb-zero n) ∙ p)
below_0 (negsuc n) p = refl

-- of z as it is read back
pub same_sign : (z : ℤ) → SFits w32 z → signed_text (to_z w32 (of_z w32 z)) ≡ signed_text z
same_sign z f = ap signed_text (to_z-of_z w32 z f)
