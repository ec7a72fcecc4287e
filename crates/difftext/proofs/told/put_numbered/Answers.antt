use native.Mathlib.Omega.{arith}
use Rattle.text.proofs.TextLaws.{put_next}
use Rattle.difftext.proofs.told.put_numbered.Goals as goal

pub returns : goal.returns
returns c = rw (← c.from.ensures) (put_next (put_next c.put_head-at.ensures.0 c.put_spaced-at.ensures.0) c.put_both-at.ensures.0, omega arith)
