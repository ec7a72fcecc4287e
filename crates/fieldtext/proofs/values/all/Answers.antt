use mathlib.Core.Path.{refl}
use mathlib.Core.List.{flatten}
use Rattle.rows.specs.Names.{ascii}
use Rattle.fieldtext.specs.Served.Coded.{name_list, value_list}
use Rattle.fieldtext.proofs.values.all.Goals as goal

pub returns : goal.returns
unfolding value_list name_list flatten ascii
returns c = refl
