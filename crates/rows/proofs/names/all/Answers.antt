use mathlib.Core.Path.{refl}
use mathlib.Core.List.{flatten}
use Rattle.rows.specs.Rows.{rows}
use Rattle.rows.specs.Names.{ascii, names}
use Rattle.rows.proofs.names.all.Goals as goal

pub returns : goal.returns
unfolding names flatten ascii rows
returns c = refl
