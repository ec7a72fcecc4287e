use mathlib.Core.Path.{refl}
use Rattle.bits.specs.Bytes.{little_bytes}
use Rattle.packing.specs.Packing.{front_bytes}
use Rattle.packing.proofs.front.Goals as goal

pub returns : goal.returns
unfolding front_bytes little_bytes
returns c = rw (c.to_le_bytes.ensures, c.to_le_bytes-2.ensures) refl
