use mathlib.Core.Path.{refl, sym}
use lib.ListN.{get_or}
use lib.Seq.{set_out}
use Rattle.bits.specs.Sets.{intersection}
use Rattle.sweeps.specs.Served.Plan.{narrow_at}
use Rattle.sweeps.proofs.sweeps.narrow.Goals as goal

pub returns-then-j-notes : goal.returns-then-j-notes
unfolding narrow_at
returns-then-j-notes c = refl

pub returns-else-j-notes : goal.returns-else-j-notes
unfolding narrow_at
returns-else-j-notes c = let a = c.args in sym (set_out a.notes.now a.j (intersection (get_or a.notes.now a.j 0) a.held) c.if-j-notes.false)
