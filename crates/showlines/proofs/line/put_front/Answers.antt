use native.Mathlib.Omega.{arith}
use Rattle.rows.specs.Names.{ascii}
use Rattle.text.proofs.TextLaws.{put_next, same_text}
use Rattle.showlines.proofs.line.put_front.Goals as goal

pub returns : goal.returns
unfolding ascii
returns c =
    let m = same_text c.mark_byte.ensures c.put_byte-at.ensures in
    let a = c.put_digits-at.ensures in
    let b = c.put_text-at.ensures in
    let d = c.put_digits-at-2.ensures in
    let e = c.put_text-at-2.ensures in
    (put_next (put_next (put_next (put_next m a.0) b) d.0) e, omega (arith, c.put_byte-at.ensures.counts, a.1, b.counts, d.1, e.counts))
