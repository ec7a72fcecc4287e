use native.Mathlib.Omega.{arith}
use Rattle.rows.specs.Names.{ascii}
use Rattle.text.proofs.TextLaws.{put_next}
use Rattle.verdictline.specs.VerdictLine.{verdict_line}
use Rattle.verdictline.proofs.put_finding.Goals as goal

pub returns : goal.returns
unfolding verdict_line ascii
returns c = (
  put_next
      (put_next
      (put_next
      (put_next
      (put_next c.put_text-at.ensures c.put_spaced-at.ensures.0)
      c.put_spaced-at-2.ensures.0)
      c.put_spaced-at-3.ensures.0)
      c.put_letter-at.ensures.0)
      c.put_end-at.ensures.0,
  omega (arith, c.put_end-at.ensures.1, c.put_letter-at.ensures.1, c.put_spaced-at-3.ensures.1, c.put_spaced-at-2.ensures.1, c.put_spaced-at.ensures.1, c.put_text-at.ensures.counts),
)
