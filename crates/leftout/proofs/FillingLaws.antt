-- The spaces at the end of a text, byte by byte from the end. Assumes nothing.
use mathlib.Core.Path.{◌≡◌}
use mathlib.Core.List.{List, [], ◌∷◌}
use Prim.Native.Nat.{ℕ, zero, suc, ◌<◌}
use native.Mathlib.Nat.{not-suc-le-zero, le_of_suc-le-suc}
use native.Mathlib.Omega.{arith}
use lib.ListN.{length, drop, get_or}
use lib.Seq.{drop-cons, drop-length}
use borrow.Author.Tests.{eq-eqb, ne_eqb}
use Rattle.leftout.specs.Served.Tables.{before_filling}

pub at_end : (s : List ℕ) → before_filling (drop (length s) s) ≡ 0
unfolding before_filling
at_end s = rw (drop-length s)

-- after byte n there is nothing but spaces, and it is one
pub one_more : (s : List ℕ) (n : ℕ) → n < length s → before_filling (drop (suc n) s) ≡ 0 → get_or s n 0 ≡ 32 → before_filling (drop n s) ≡ 0
unfolding before_filling
one_more s n h z e = rw (drop-cons s n 0 h, z, eq-eqb (get_or s n 0) 32 e)

-- and it is none
pub last_byte : (s : List ℕ) (n : ℕ) → n < length s → before_filling (drop (suc n) s) ≡ 0 → (get_or s n 0 ≡ 32 → ⊥) → before_filling s ≡ suc n
unfolding before_filling
last_byte [] n h z e = absurd (not-suc-le-zero h)
last_byte (b ∷ bs) zero h z e = rw (z, ne_eqb b 32 e)
last_byte (b ∷ bs) (suc n) h z e = rw (last_byte bs n (le_of_suc-le-suc h) z e, ne_eqb (suc n) 0 (λ q. omega arith))
