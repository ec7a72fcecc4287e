-- Sets of halves of 64 registers (02, Item 7): a set for the low halves and a set for the high halves.
use Rattle.std.specs.Prelude.{ℕ}
use Rattle.bits.specs.Sets.{minus, union}
use Rattle.bits.specs.declared.halves.Halves.{Halves}

-- which half of a register
pub data Half : Type 0 where
  lower : Half
  upper : Half

-- the registers whose half of that kind is in the set
abbrev pub half_of : Half → Halves → ℕ
half_of lower s = s.low
half_of upper s = s.high

abbrev pub halves : ℕ → ℕ → Halves
halves low high = record { low = low; high = high }

-- both halves of some registers
abbrev pub both : ℕ → Halves
both s = halves s s

-- the registers of which a half is in the set
abbrev pub either : Halves → ℕ
either s = union s.low s.high

-- the halves of a that are not in b
abbrev pub minus_halves : Halves → Halves → Halves
minus_halves a b = halves (minus a.low b.low) (minus a.high b.high)
