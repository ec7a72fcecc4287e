use mathlib.Core.Path.{◌∙◌}
use native.Mathlib.Omega.{arith}
use Rattle.writing.proofs.RoomLaws.{narrow_hit, narrow_miss, narrow_end}
use Rattle.wordparts.proofs.room.modifiers_fit.Goals as goal

pub returns-then-not-has_room : goal.returns-then-not-has_room
returns-then-not-has_room c =
    narrow_miss c.args.widths c.args.m c.loop-j.j (omega arith) c.has_room.ensures c.from.ensures c.bits_at.ensures.0 c.if-not-has_room.true
    ∙ c.loop-j.invariant

pub loop-j-preserved : goal.loop-j-preserved
loop-j-preserved c =
    narrow_hit c.args.widths c.args.m c.loop-j.j (omega arith) c.has_room.ensures c.from.ensures c.bits_at.ensures.0 c.if-not-has_room.false
    ∙ c.loop-j.invariant

pub returns : goal.returns
returns c = narrow_end c.args.widths c.args.m c.loop-j.j (omega arith) ∙ c.loop-j.invariant
