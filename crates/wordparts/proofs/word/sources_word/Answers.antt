use native.Mathlib.Omega.{arith}
use Rattle.bits.specs.Bytes.{little}
use Rattle.wordparts.proofs.word.sources_word.Goals as goal

pub returns : goal.returns
unfolding little
returns c = (omega (arith, c.from.ensures, c.from_le_bytes.ensures), omega (arith, c.from.ensures))
