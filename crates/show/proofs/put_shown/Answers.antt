use Rattle.container.proofs.OpeningLaws.{opened_by, refused_by}
use Rattle.text.proofs.TextLaws.{same_text}
use Rattle.show.proofs.ShowLaws.{shown_opened, shown_refused}
use Rattle.show.proofs.put_shown.Goals as goal

pub returns-in-Ok : goal.returns-in-Ok
returns-in-Ok c =
    let s = c.args.bytes.now in
    same_text (shown_opened s (opened_by c.open.ensures c.in-Ok.is) c.verify-v.ensures.verdict) c.put_opened.ensures

pub returns-in-Err : goal.returns-in-Err
returns-in-Err c =
    let s = c.args.bytes.now in
    same_text (shown_refused s (refused_by c.open.ensures c.in-Err.is) c.verify-v.ensures.verdict) c.put_verdict.ensures.0
