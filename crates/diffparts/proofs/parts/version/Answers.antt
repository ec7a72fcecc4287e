use Rattle.container.proofs.OpeningLaws.{framed}
use Rattle.diffparts.proofs.parts.version.Goals as goal

pub version_in-requires : goal.version_in-requires
version_in-requires c = (framed c.args.bytes.now c.requires).long
