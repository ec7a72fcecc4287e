use Rattle.sourcetext.proofs.SourceLaws.{source_placed}
use native.Mathlib.Omega.{arith}
use Rattle.text.proofs.TextLaws.{put_next, same_text}
use Rattle.sourcetext.proofs.put_source.Goals as goal

pub returns : goal.returns
returns c =
    let p = c.put_modifiers-at.ensures in
    let q = c.put_modifiers-at-2.ensures in
    let e = source_placed c.args.kinds.now c.args.values.now c.args.page c.args.byte c.args.k c.sign_places-signs.ensures c.swizzle_places-swizzles.ensures in
    (same_text e (put_next (put_next c.put_meaning-at.ensures.0 p.0) q.0), omega (arith, p.1, q.1, c.put_meaning-at.ensures.1))
