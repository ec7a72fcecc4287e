use Rattle.ops.proofs.ReversalLaws.{five}
use Rattle.ops.proofs.bitrev.Goals as goal

pub returns : goal.returns
returns c =
    five _ _ _ _ _ _
    c.exchanged-a.ensures
    c.exchanged-b.ensures
    c.exchanged-c.ensures
    c.exchanged-d.ensures
    c.exchanged.ensures
