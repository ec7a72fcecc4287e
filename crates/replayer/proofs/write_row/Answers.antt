use mathlib.Core.Path.{◌∙◌}
use Rattle.text.proofs.TextLaws.{put_front}
use Rattle.replayer.proofs.ReplayingLaws.{roomy, row_is}
use Rattle.replayer.proofs.write_row.Goals as goal

pub load_registers-requires : goal.load_registers-requires
load_registers-requires g c = roomy c.requires.0

pub send_row-requires : goal.send_row-requires
send_row-requires g c =
    let p = c.requires in
    (p.0, p.2, p.3, put_front c.put_registers-n.ensures.0 ∙ row_is p.0 p.1 c.load_registers.ensures p.2 p.3 c.replay.ensures.left)
