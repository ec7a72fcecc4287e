use Rattle.lacks.specs.Lacks.{stray_text}
use Rattle.text.proofs.TextLaws.{put_next}
use Rattle.rows.specs.Names.{ascii}
use native.Mathlib.Omega.{arith}
use Rattle.lacks.proofs.put_stray.Goals as goal

pub returns : goal.returns
unfolding stray_text ascii
returns c = (
  put_next
      (put_next
      (put_next c.put_enclosed-at.ensures.0
      c.put_row-at.ensures.0)
      c.put_text-at.ensures)
      c.put_lack-at.ensures.0,
  omega (arith, c.put_enclosed-at.ensures.1, c.put_row-at.ensures.1, c.put_text-at.ensures.counts, c.put_lack-at.ensures.1),
)
