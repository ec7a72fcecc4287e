use Rattle.rows.specs.Names.{ascii}
use native.Mathlib.Omega.{arith}
use mathlib.Core.Path.{sym}
use Rattle.text.proofs.TextLaws.{same_text}
use Rattle.disasm.proofs.PlaceLaws.{unnamed_row}
use Rattle.disasm.proofs.put_row.Goals as goal

pub returns-then-at-ge-ROWS : goal.returns-then-at-ge-ROWS
unfolding ascii
returns-then-at-ge-ROWS c = (same_text (sym (unnamed_row c.args.row c.if-at-ge-ROWS.true)) c.put_text.ensures, omega (arith, c.put_text.ensures.counts))
