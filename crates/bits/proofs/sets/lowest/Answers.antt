use lib.Count.{trailing_le}
use Rattle.bits.proofs.SetLaws.{trailing_lowest}
use Rattle.bits.proofs.sets.lowest.Goals as goal

pub returns : goal.returns
returns c = (trailing_lowest c.args.s, trailing_le 64 c.args.s)
