use mathlib.Core.Path.{sym, ◌∙◌}
use Rattle.rows.specs.Names.{ascii}
use Rattle.disasm.proofs.PlaceLaws.{destination_coded}
use native.Mathlib.Omega.{arith}
use Rattle.text.proofs.TextLaws.{put_next, same_text}
use Rattle.disasm.proofs.operands.put_destination.Goals as goal

pub returns : goal.returns
unfolding ascii
returns c =
    let p = c.put_labelled-at.ensures in
    let q = c.put_value.ensures in
    (same_text (destination_coded c.args.x (sym c.has_destination.ensures ∙ c.if-not-has_destination.false)) (put_next p.0 q.0), omega (arith, p.1, q.1))
