use mathlib.Core.Path.{sym, ap, ◌∙◌}
use Rattle.runbytes.specs.RunBytes.{parted_outcome}
use Rattle.runbytes.proofs.SplitLaws.{whole}
use Rattle.replays.proofs.say_asked.Goals as goal

pub say_whole-requires : goal.say_whole-requires
say_whole-requires g c = whole c.args.bytes.now (ap parted_outcome (sym c.in-Ok.is) ∙ c.split-parted.ensures)
