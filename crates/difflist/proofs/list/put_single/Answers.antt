use mathlib.Core.Path.{refl, sym, ap, subst}
use mathlib.Core.List.{List, Memᴰ}
use Rattle.differences.specs.declared.line.Line.{Line}
use Rattle.diffparts.specs.Served.Parts.{single_told}
use Rattle.difflist.specs.Served.Placed.{Placed}
use Rattle.difflist.proofs.FillLaws.{none_placed}
use Rattle.difflist.proofs.list.put_single.Goals as goal

pub put_line-requires : goal.put_line-requires
put_line-requires c =
    let l = c.in-Some.line in
    (c.requires.0 l (subst (Memᴰ l) (ap single_told (sym c.in-Some.is)) (Memᴰ.head refl)), c.requires.1)

pub returns-in-None : goal.returns-in-None
returns-in-None c =
    subst (λ (l : List Line). Placed l c.args.k c.args.out.now c.args.out.now c.args.k) (ap single_told (sym c.in-None.is)) (none_placed c.args.k c.args.out.now)
