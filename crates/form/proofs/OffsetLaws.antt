-- The 32 bits of an offset, as the library reads and writes them. Assumes nothing.
use mathlib.Core.Path.{◌≡◌, refl, ap, ◌∙◌}
use mathlib.Core.Bool.{Bool, true, false}
use mathlib.Core.List.{[], ◌∷◌}
use Prim.Native.Nat.{ℕ, suc, ◌+◌, ◌-◌, ◌*◌, ◌≤◌}
use native.Mathlib.Omega.{arith}
use lib.Dec.{ltb}
use lib.IntN.{ℤ, pos, negsuc}
use mir.Syntax.{w32}
use mir.Val.{SFits, to_z, of_z, sel}
use mir.ValLaws.{to_z-of_z}
use borrow.Author.Tests.{lt-ltb}
use Rattle.std.specs.Int.{from_le_bytes}
use Rattle.bits.specs.Fields.{choose}
use Rattle.bits.specs.Signed.{unsigned, signed}
use Rattle.form.specs.Form.{half}

pub few : half ≤ 2147483648
few = omega arith

pub unsigned_is : (z : ℤ) → SFits w32 z → of_z w32 z ≡ unsigned half z
unfolding unsigned
unsigned_is (pos n) s = rw (lt-ltb n half (omega (arith, s.sfits))) refl
unsigned_is (negsuc n) s = rw (lt-ltb n half (omega (arith, s.sfits))) (omega arith)

pub signed_is : (n : ℕ) → to_z w32 n ≡ signed half n
unfolding signed
signed_is n = go (ltb n half)
  where
    go : (t : Bool) → sel t (pos n) (negsuc (half + half - suc n)) ≡ choose t (pos n) (negsuc (half + half - 1 - n))
    go true = refl
    go false = ap negsuc (omega arith)

-- z as the machine reads it back from its bits
pub back_is : (z : ℤ) → SFits w32 z → to_z w32 (of_z w32 z) ≡ z
back_is z s = to_z-of_z w32 z s

-- four bytes as the library reads them
pub load_four : (a b c d : ℕ) {z : ℤ} → z ≡ to_z w32 (from_le_bytes w32 (a ∷ b ∷ c ∷ d ∷ [])) → z ≡ signed half (a + 256 * (b + 256 * (c + 256 * d)))
load_four a b c d e =
    let number : from_le_bytes w32 (a ∷ b ∷ c ∷ d ∷ []) ≡ a + 256 * (b + 256 * (c + 256 * d)) = omega arith in
    e ∙ ap (to_z w32) number ∙ signed_is _
