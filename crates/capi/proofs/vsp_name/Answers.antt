use lib.ListN.{length}
use borrow.Author.Rules.{rules}
use mathlib.Core.Path.{◌≡◌}
use native.Mathlib.Omega.{arith}
use Rattle.codes.proofs.TextLaws.{name_put, nameless}
use Rattle.capi.proofs.vsp_name.Goals as goal

pub returns-then-row-ge-ROWS : goal.returns-then-row-ge-ROWS
returns-then-row-ge-ROWS c = let all = nameless c.args.row c.args.name.now c.if-row-ge-ROWS.true in record { answer = all.0; kept = all.1 }

pub returns : goal.returns
returns c =
    let p = c.put_name-n.ensures in
    let l : length c.args.name.now ≡ 19 = search rules in
    record { answer = p.0.counts; kept = name_put c.args.row c.if-row-ge-ROWS.false p.0 (omega (arith, l, p.1)) }
