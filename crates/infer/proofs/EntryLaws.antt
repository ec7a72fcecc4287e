-- What a version takes of an entry set. Assumes nothing.
use mathlib.Core.Path.{◌≡◌, refl, ap}
use mathlib.Core.Bool.{Bool, true, false}
use Prim.Native.Nat.{ℕ, ◌^◌, ◌<◌}
use borrow.Author.Tests.{eq-eqb, ne_eqb}
use lib.Dec.{eqb}
use Rattle.bits.specs.Fields.{choose}
use Rattle.bits.specs.Halves.{halves, both}
use Rattle.bits.specs.declared.halves.Halves.{Halves}
use Rattle.container.specs.Formats.{high_offset}
use Rattle.packing.specs.Packing.{taken}
use Rattle.safety.proofs.ProgramLaws.{Small}

-- of 64-bit numbers it takes such
pub taken_small : (v : ℕ) (e : Halves) → e.low < 2 ^ 64 → e.high < 2 ^ 64 → Small (taken v e)
unfolding taken
taken_small v e low high = record { low = low; high = go (eqb (high_offset v) 0) }
  where
    go : (t : Bool) → choose t e.low e.high < 2 ^ 64
    go true = low
    go false = high

-- where it has no place for the high halves, the low ones stand for both; else it takes them as they are
pub takes_low : (v : ℕ) (e : Halves) → high_offset v ≡ 0 → both e.low ≡ taken v e
unfolding taken
takes_low v e h = rw (eq-eqb (high_offset v) 0 h)

pub takes_whole : (v : ℕ) (e : Halves) → (¬ (high_offset v ≡ 0)) → e ≡ taken v e
unfolding taken
takes_whole v e h = rw (ne_eqb (high_offset v) 0 h)

-- and what it takes it takes as it is
pub taken_again : (v : ℕ) (e : Halves) → taken v (taken v e) ≡ taken v e
unfolding taken
taken_again v e = ap (halves e.low) (go (eqb (high_offset v) 0))
  where
    go : (t : Bool) → choose t e.low (choose t e.low e.high) ≡ choose t e.low e.high
    go true = refl
    go false = refl
