use mathlib.Core.Path.{sym, ◌∙◌}
use Rattle.fieldtext.proofs.CodedLaws.{row_kinds_read, no_row_kinds}
use Rattle.fieldtext.proofs.kinds.kinds_of.Goals as goal

pub returns-then-k-ge-ROWS : goal.returns-then-k-ge-ROWS
returns-then-k-ge-ROWS c = sym (no_row_kinds c.args.row c.if-k-ge-ROWS.true)

pub returns : goal.returns
returns c = c.copy_from_slice.ensures.after ∙ row_kinds_read c.args.row c.all-table.ensures c.if-k-ge-ROWS.false
