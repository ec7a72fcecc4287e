use mathlib.Core.Path.{sym, ap}
use lib.ListN.{length}
use Rattle.rows.specs.Rows.{Row}
use Rattle.rows.specs.Names.{ascii, filled, name}
use Rattle.rows.proofs.NameLaws.{name_there, no_name}
use Rattle.rows.proofs.names.of_row.Goals as goal
use Rattle.std.proofs.Common.{arith}
use Rattle.std.proofs.lemmas.Grind.{common_steps}

pub returns-then-row-ge-ROWS : goal.returns-then-row-ge-ROWS
unfolding name ascii
returns-then-row-ge-ROWS c = sym (ap (λ (r : Row). record { bytes = filled (ascii r.name); len = length (ascii r.name) }) (no_name c.args.row c.if-row-ge-ROWS.true))

pub returns : goal.returns
returns c = grind (arith, common_steps, name_there)
