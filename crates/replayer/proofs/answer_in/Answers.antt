use Rattle.replayer.proofs.ReplayingLaws.{is_whole}
use Rattle.replayer.proofs.answer_in.Goals as goal

pub load_lists-requires : goal.load_lists-requires
load_lists-requires g c = (is_whole c.requires.0, c.requires.1, c.requires.2)

pub container-requires : goal.container-requires
container-requires g c = is_whole c.requires.0
