use Rattle.diff.proofs.AnswerLaws.{counted_by}
use Rattle.differ.proofs.list.Goals as goal

pub send_all-requires : goal.send_all-requires
send_all-requires g c =
    let p = c.requires in
    (p.0, counted_by p.1 c.open_count-n.ensures c.open_count-m.ensures)
