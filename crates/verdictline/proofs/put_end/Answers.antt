use Rattle.text.proofs.TextLaws.{put_next}
use native.Mathlib.Omega.{arith}
use Rattle.verdictline.proofs.put_end.Goals as goal

pub returns : goal.returns
returns c = (put_next c.put_place-at.ensures.0 c.put_byte.ensures, omega (arith, c.put_place-at.ensures.1))
