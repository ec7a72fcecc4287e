use Rattle.linetext.specs.Lines.{line_text}
use Rattle.text.proofs.TextLaws.{put_next}
use Rattle.difftext.proofs.put_line.Goals as goal

pub returns : goal.returns
unfolding line_text
returns c = put_next c.put_told-at.ensures.0 c.put_byte.ensures
