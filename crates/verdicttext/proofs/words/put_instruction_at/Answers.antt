use native.Mathlib.Omega.{arith}
use Rattle.rows.specs.Names.{ascii}
use Rattle.text.proofs.TextLaws.{put_next}
use Rattle.verdicttext.proofs.words.put_instruction_at.Goals as goal

pub returns : goal.returns
unfolding ascii
returns c = (put_next c.put_enclosed-at.ensures.0 c.put_why.ensures.0, omega (arith, c.put_enclosed-at.ensures.1, c.put_why.ensures.1))
