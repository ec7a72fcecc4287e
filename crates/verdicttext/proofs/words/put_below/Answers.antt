use native.Mathlib.Omega.{arith}
use Rattle.rows.specs.Names.{ascii}
use Rattle.text.proofs.TextLaws.{put_next}
use Rattle.verdicttext.specs.Words.{fault_line}
use Rattle.verdicttext.proofs.words.put_below.Goals as goal

pub returns : goal.returns
unfolding ascii fault_line
returns c = (put_next (put_next (put_next c.put_spaces-at.ensures.0 c.put_text-at.ensures) c.put_why-at.ensures.0) c.put_byte-at.ensures, omega (arith, c.put_spaces-at.ensures.1, c.put_text-at.ensures.counts, c.put_why-at.ensures.1, c.put_byte-at.ensures.counts))
