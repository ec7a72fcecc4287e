use native.Mathlib.Omega.{arith}
use Rattle.rows.specs.Names.{ascii}
use Rattle.text.proofs.TextLaws.{put_next}
use Rattle.difftext.proofs.told.put_version.Goals as goal

pub returns : goal.returns
unfolding ascii
returns c = (put_next c.put_text-at.ensures c.put_both.ensures.0, omega arith)
