use mathlib.Core.Path.{refl}
use mathlib.Core.List.{flatten}
use Rattle.rows.specs.Rows.{rows}
use Rattle.rows.specs.Layout.{modifier_at}
use Rattle.fieldtext.specs.Served.Coded.{kind_table}
use Rattle.fieldtext.proofs.kinds.all.Goals as goal

pub returns : goal.returns
unfolding kind_table flatten rows modifier_at
returns c = refl
