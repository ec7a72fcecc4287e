use mathlib.Core.Path.{refl}
use native.Mathlib.Omega.{arith}
use Rattle.text.proofs.TextLaws.{put_next, same_text}
use Rattle.showlines.proofs.LineLaws.{no_lines, line_more}
use Rattle.show.proofs.program.put_lines.Goals as goal

pub loop-i-init : goal.loop-i-init
loop-i-init c =
    let a = c.args in
    (omega arith, refl, no_lines a.version a.words.now a.notes.now a.n a.width a.faulty a.fault.now a.out.now)

pub loop-i-preserved : goal.loop-i-preserved
loop-i-preserved c =
    let a = c.args in
    let l = c.loop-i in
    (omega (arith, c.put_entry-at.ensures.1), omega arith, same_text (line_more a.version a.words.now a.notes.now a.n a.width a.faulty a.fault.now l.i) (put_next l.invariant.2 c.put_entry-at.ensures.0))
