use mathlib.Core.Path.{sym, ap}
use Rattle.rows.specs.Names.{ascii}
use Rattle.text.proofs.TextLaws.{put_front}
use Rattle.differ.specs.Comparing.{side_line}
use Rattle.differ.proofs.refuse.Goals as goal

pub tell_refusal-requires : goal.tell_refusal-requires
unfolding ascii
tell_refusal-requires g c = (c.requires.0, c.requires.1, ap side_line (sym c.in-First.is), put_front c.write_verdict-n.ensures)

pub tell_refusal-requires-in-Second : goal.tell_refusal-requires-in-Second
unfolding ascii
tell_refusal-requires-in-Second g c = (c.requires.0, c.requires.1, ap side_line (sym c.in-Second.is), put_front c.write_verdict-n.ensures)
