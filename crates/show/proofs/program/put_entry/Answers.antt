use mathlib.Core.Path.{◌∙◌}
use native.Mathlib.Omega.{arith}
use Rattle.text.proofs.TextLaws.{put_next, same_text}
use Rattle.showlines.proofs.LineLaws.{mark_tells, same_line, not_here, here}
use Rattle.show.proofs.program.put_entry.Goals as goal

pub returns-then-i-faulty : goal.returns-then-i-faulty
returns-then-i-faulty c =
    let a = c.args in
    let p = c.put_line-at.ensures in
    let m = mark_tells a.words.now a.n a.i c.requires.0 c.requires.1.few c.requires.5 in
    let s = same_line a.version a.words.now a.notes.now a.n a.width a.faulty a.fault.now a.i m c.number_at-w.ensures c.annotation_at-note.ensures in
    (same_text (s ∙ not_here a.version a.words.now a.notes.now a.n a.width a.faulty a.fault.now a.i c.if-i-faulty.true) p.0, omega (arith, p.1))

pub returns : goal.returns
returns c =
    let a = c.args in
    let p = c.put_line-at.ensures in
    let q = c.put_text.ensures in
    let m = mark_tells a.words.now a.n a.i c.requires.0 c.requires.1.few c.requires.5 in
    let s = same_line a.version a.words.now a.notes.now a.n a.width a.faulty a.fault.now a.i m c.number_at-w.ensures c.annotation_at-note.ensures in
    (same_text (here a.version a.words.now a.notes.now a.n a.width a.faulty a.fault.now a.i c.if-i-faulty.false) (put_next (same_text s p.0) q), omega (arith, p.1, q.counts, c.requires.4))
