-- The numbers that refusals of packing have. Assumes nothing.
use mathlib.Core.Path.{◌≡◌, refl}
use mathlib.Core.List.{List}
use mathlib.Core.Logic.{◌⊎◌, inl, inr}
use Prim.Native.Nat.{ℕ}
use lib.Dec.{eqb}
use lib.ListN.{length}
use Rattle.bits.specs.declared.halves.Halves.{Halves}
use Rattle.bits.proofs.OutcomeLaws.{Refusals, of_require, on}
use Rattle.container.specs.Formats.{known, container_length}
use Rattle.container.specs.Opening.{Rejection, unplaced}
use Rattle.packing.specs.Packing.{word_count, fitting, pack_outcome}

-- 11 or 12, at place 0
abbrev pub Unpacked : Rejection → Type 0
Unpacked r = (r ≡ unplaced 11) ⊎ (r ≡ unplaced 12)

pub pack_numbers : (v : ℕ) (entry : Halves) (words annotations out : List ℕ) → Refusals Unpacked (pack_outcome v entry words annotations out)
unfolding pack_outcome
pack_numbers v entry words annotations out =
    on Unpacked (known v) (unplaced 11) (inl refl)
    (on Unpacked (fitting v (length words) (length annotations)) (unplaced 12) (inr refl)
    (of_require Unpacked (eqb (length out) (container_length v (word_count (length words)))) (unplaced 12) (inr refl)))
