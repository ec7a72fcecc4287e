use Rattle.bits.specs.Fields.{assigned}
use Rattle.rows.specs.Rows.{rows}
use Rattle.rows.specs.Layout.{places, slots, modifier_at}
use Rattle.rows.specs.Served.Table.{table}
use Rattle.rows.proofs.TableLaws.{row_line}
use Rattle.rows.proofs.table.row_at.Goals as goal

pub returns : goal.returns
unfolding table rows slots places modifier_at assigned
returns c = row_line c.args.row _ c.requires
