use Rattle.std.proofs.Common.{◌≡◌, get_or, arith, rules, tests}
use Rattle.std.proofs.lemmas.Iterator.{first_from_Range}
use Rattle.std.proofs.lemmas.List.{get_or_read}
use Rattle.diff.proofs.ScanLaws.{searched}
use Rattle.diff.proofs.cursor.differing.Goals as goal

pub returns : goal.returns
returns c =
    let xs = c.args.xs.now in
    let ys = c.args.ys.now in
    searched xs ys c.args.from c.find.result
    (first_from_Range _ _ _ _ (λ k. get_or xs k 0 ≡ get_or ys k 0 → ⊥) (λ k. get_or xs k 0 ≡ get_or ys k 0) c.find.ensures.ran
    (λ x q k. grind (arith, tests, get_or_read))
    (λ x q k. (search rules, grind (arith, tests, get_or_read))))
