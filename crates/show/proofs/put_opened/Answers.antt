use native.Mathlib.Omega.{arith}
use lib.ListN.{length-take, length-drop}
use Rattle.container.proofs.OpeningLaws.{sized, words_contents, annotations_contents}
use Rattle.safety.specs.Verdict.{verdict_outcome}
use Rattle.safety.proofs.PassLaws.{worded, annotated}
use Rattle.text.proofs.TextLaws.{put_next, same_text}
use Rattle.show.proofs.ShowLaws.{opened_parts}
use Rattle.show.proofs.put_opened.Goals as goal

pub put_program-at-requires : goal.put_program-at-requires
put_program-at-requires c =
    let a = c.args in
    let o = c.requires.0 in
    let s = a.bytes.now in
    let w = words_contents a.bytes c.words-code.result c.words-code.ensures o in
    let n = annotations_contents a.bytes c.annotations-notes.result c.annotations-notes.ensures o in
    let z = sized s o in (
      worded s c.words-code.result.now c.annotations-notes.result.now a.h o w n,
      annotated s c.words-code.result.now c.annotations-notes.result.now a.h o w n,
      simp (length-take, length-drop) (omega (arith, z.counts, z.few, c.put_head-at.ensures.1, c.requires.1)),
    )

pub put_verdict-at-requires : goal.put_verdict-at-requires
put_verdict-at-requires c =
    let z = sized c.args.bytes.now c.requires.0 in
    simp (length-take, length-drop) (omega (arith, z.counts, z.few, c.put_head-at.ensures.1, c.put_program-at.ensures.1, c.requires.1))

pub returns : goal.returns
returns c =
    let a = c.args in
    let o = c.requires.0 in
    let w = words_contents a.bytes c.words-code.result c.words-code.ensures o in
    let n = annotations_contents a.bytes c.annotations-notes.result c.annotations-notes.ensures o in
    same_text (opened_parts a.bytes.now a.h (verdict_outcome a.v) c.told_of-told.ensures w n)
    (put_next (put_next c.put_head-at.ensures.0 c.put_program-at.ensures.0) c.put_verdict-at.ensures.0)
