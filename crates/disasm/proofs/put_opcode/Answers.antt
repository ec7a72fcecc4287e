use native.Mathlib.Omega.{arith}
use Rattle.text.proofs.TextLaws.{put_next, same_text}
use Rattle.disasm.proofs.PlaceLaws.{opcode_coded}
use Rattle.disasm.proofs.put_opcode.Goals as goal

pub returns : goal.returns
returns c =
    let p = c.requires in
    let m = c.put_modifiers-at.ensures in
    let v = c.put_value-at.ensures in
    let r = c.put_row-at.ensures in
    (same_text (opcode_coded c.args.x p.1 p.2) (put_next (put_next r.0 m.0) v.0), omega (arith, r.1, m.1, v.1))
