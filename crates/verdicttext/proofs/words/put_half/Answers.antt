use native.Mathlib.Omega.{arith}
use Rattle.text.proofs.TextLaws.{put_next}
use Rattle.verdicttext.proofs.words.put_half.Goals as goal

pub returns : goal.returns
returns c = (
  put_next (put_next c.put_labelled-at.ensures.0 c.put_letter-at.ensures.0) c.put_text-at.ensures,
  omega (arith, c.put_labelled-at.ensures.1, c.put_letter-at.ensures.1, c.put_text-at.ensures.counts),
)
