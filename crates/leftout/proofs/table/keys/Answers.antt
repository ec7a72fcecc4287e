use mathlib.Core.Path.{refl}
use Rattle.leftout.specs.Omitted.{omitted}
use Rattle.leftout.specs.Served.Tables.{key_table}
use Rattle.leftout.proofs.table.keys.Goals as goal

pub returns : goal.returns
unfolding key_table omitted
returns c = refl
