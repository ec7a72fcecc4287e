use native.Mathlib.Omega.{arith}
use Rattle.rows.specs.Names.{ascii}
use Rattle.text.proofs.TextLaws.{put_next, same_text}
use Rattle.showlines.proofs.LineLaws.{one_line}
use Rattle.showlines.proofs.line.put_line.Goals as goal

pub returns : goal.returns
unfolding ascii
returns c =
    let a = c.args in
    let p = c.put_front-at.ensures in
    let q = c.put_wide-at.ensures in
    let r = c.put_text-at.ensures in
    let s = c.put_registers-at.ensures in
    let t = c.put_byte-at.ensures in
    (same_text (one_line a.mark a.n a.width a.i a.w a.note) (put_next (put_next (put_next (put_next p.0 q.0) r) s.0) t), omega (arith, p.1, q.1, r.counts, s.1, t.counts))
