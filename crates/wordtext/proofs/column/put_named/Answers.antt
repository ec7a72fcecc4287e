use native.Mathlib.Omega.{arith}
use Rattle.rows.specs.Names.{ascii}
use Rattle.text.proofs.TextLaws.{put_next}
use Rattle.wordtext.proofs.column.put_named.Goals as goal

pub returns : goal.returns
unfolding ascii
returns c = (put_next (put_next c.put_text-at.ensures c.put_text-at-2.ensures) c.put_text-at-3.ensures, omega (arith, c.put_text-at.ensures.counts, c.put_text-at-2.ensures.counts, c.put_text-at-3.ensures.counts))
