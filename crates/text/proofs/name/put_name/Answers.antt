use native.Mathlib.Omega.{arith}
use Rattle.text.proofs.TextLaws.{same_text}
use Rattle.text.proofs.NameLaws.{long, again, no_name_put}
use Rattle.text.proofs.name.put_name.Goals as goal

pub returns-then-row-ge-ROWS : goal.returns-then-row-ge-ROWS
returns-then-row-ge-ROWS c = (no_name_put c.args.row c.args.out.now c.if-row-ge-ROWS.true, omega arith)

pub returns : goal.returns
returns c =
    let k = c.args.row in
    let h = c.if-row-ge-ROWS.false in
    let p = c.put_padded.ensures in
    (same_text (again k c.requires.0 h) p.0, omega (arith, long k c.requires.0 h, p.1))
