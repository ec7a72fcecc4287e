use mathlib.Core.Path.{◌∙◌}
use Rattle.text.proofs.TextLaws.{put_front}
use Rattle.replayer.specs.Replaying.{answer_text}
use Rattle.replayer.proofs.write_answer.Goals as goal

pub send_answer-requires : goal.send_answer-requires
unfolding answer_text
send_answer-requires g c =
    let p = c.requires in
    (p.0, p.1, put_front c.put_answer-n.ensures.0 ∙ rw (p.2, p.3, p.4))
