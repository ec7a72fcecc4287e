use native.Mathlib.Omega.{arith}
use Rattle.rows.specs.Names.{ascii}
use Rattle.text.proofs.TextLaws.{put_next}
use Rattle.wordtext.proofs.column.put_refused.Goals as goal

pub returns : goal.returns
unfolding ascii
returns c = (put_next c.put_enclosed-at.ensures.0 c.put_reason.ensures.0, omega (arith, c.put_enclosed-at.ensures.1, c.put_reason.ensures.1))
