use Rattle.differ.proofs.ComparingLaws.{parted}
use Rattle.differ.proofs.report.Goals as goal

pub compare-requires-2 : goal.compare-requires-2
compare-requires-2 g c = parted _ c.requires c.if-bytes-lt-LENGTH_LENGTH.false c.first_end-end.ensures
