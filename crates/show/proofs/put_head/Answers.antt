use native.Mathlib.Omega.{arith}
use Rattle.rows.specs.Names.{ascii}
use Rattle.text.proofs.TextLaws.{put_next, same_text}
use Rattle.show.proofs.ShowLaws.{headed}
use Rattle.show.proofs.put_head.Goals as goal

pub returns : goal.returns
unfolding ascii
returns c =
    let a = c.args in
    let p = c.put_enclosed-at.ensures in
    let q = c.put_enclosed-at-2.ensures in
    let r = c.put_registers-at.ensures in
    let t = c.put_text-at.ensures in
    (same_text (headed a.version a.n a.entry) (put_next (put_next (put_next p.0 q.0) r.0) t), omega (arith, p.1, q.1, r.1, t.counts))
