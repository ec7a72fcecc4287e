use native.Mathlib.Omega.{arith}
use Rattle.safety.specs.Verdict.{verdict_outcome}
use Rattle.text.proofs.TextLaws.{put_next, same_text, put_front}
use Rattle.show.proofs.ShowLaws.{programmed}
use Rattle.show.proofs.program.put_program.Goals as goal

pub returns : goal.returns
returns c =
    let a = c.args in
    let t = c.put_title-at.ensures in
    let l = c.put_lines-at.ensures in
    let b = c.put_byte-at.ensures in
    let e = programmed a.version a.words.now a.notes.now a.n (verdict_outcome a.v) c.widest-width.ensures.0 c.fault_index.ensures (put_front c.put_fault-k.ensures.0) in
    (same_text e (put_next (put_next t.0 l.0) b), omega (arith, t.1, l.1, b.counts))
