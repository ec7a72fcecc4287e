use native.Mathlib.Omega.{arith}
use Rattle.rows.specs.Names.{ascii}
use Rattle.linetext.specs.Lines.{arrow}
use Rattle.text.proofs.TextLaws.{put_next}
use Rattle.linetext.proofs.put_both.Goals as goal

pub returns : goal.returns
unfolding arrow ascii
returns c = (
  put_next (put_next c.put_spaced-at.ensures.0 c.put_text-at.ensures) c.put_spaced-at-2.ensures.0,
  omega arith,
)
