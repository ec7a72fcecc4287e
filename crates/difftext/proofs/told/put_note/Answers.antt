use native.Mathlib.Omega.{arith}
use Rattle.rows.specs.Names.{ascii}
use Rattle.text.proofs.TextLaws.{put_next}
use Rattle.difftext.proofs.told.put_note.Goals as goal

pub returns : goal.returns
unfolding ascii
returns c = (put_next (put_next c.put_head-at.ensures.0 c.put_set_name-at.ensures.0) c.put_both-at.ensures.0, omega arith)
