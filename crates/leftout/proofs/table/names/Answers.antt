use mathlib.Core.Path.{refl}
use Rattle.rows.specs.Names.{ascii}
use Rattle.leftout.specs.Omitted.{omitted}
use Rattle.leftout.specs.Served.Tables.{name_text}
use Rattle.leftout.proofs.table.names.Goals as goal

pub returns : goal.returns
unfolding name_text omitted ascii
returns c = refl
