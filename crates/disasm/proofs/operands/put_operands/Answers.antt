use mathlib.Core.Path.{refl}
use native.Mathlib.Omega.{arith}
use Rattle.text.proofs.TextLaws.{put_next, same_text}
use Rattle.disasm.proofs.PlaceLaws.{operands_coded}
use Rattle.disasm.proofs.operands.put_operands.Goals as goal

pub returns : goal.returns
returns c =
    let p = c.requires in
    let d = c.put_destination-at.ensures in
    let s = c.put_sources-at.ensures in
    let o = c.put_offset-at.ensures in
    let e = operands_coded c.args.x p.1 p.2 refl c.before_sources-first.ensures.0 c.source_count-n.ensures.0 in
    (same_text e (put_next (put_next d.0 s.0) o.0), omega (arith, d.1, s.1, o.1, c.source_count-n.ensures.1))
