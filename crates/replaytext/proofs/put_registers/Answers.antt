use native.Mathlib.Omega.{arith}
use Rattle.text.proofs.TextLaws.{put_next}
use Rattle.replaytext.specs.ReplayText.{register_row}
use Rattle.replaytext.proofs.put_registers.Goals as goal

pub returns : goal.returns
unfolding register_row
returns c = (put_next c.put_values-at.ensures.0 c.put_byte.ensures, omega (arith, c.put_values-at.ensures.1, c.put_byte.ensures.counts))
