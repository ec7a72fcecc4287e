use native.Mathlib.Omega.{arith}
use Rattle.rows.specs.Names.{ascii}
use Rattle.text.proofs.TextLaws.{put_next}
use Rattle.wordtext.proofs.column.put_no_row.Goals as goal

pub returns : goal.returns
unfolding ascii
returns c = (put_next c.put_text-at.ensures c.put_omitted.ensures.0, omega (arith, c.put_text-at.ensures.counts, c.put_omitted.ensures.1))
