use mathlib.Core.Path.{subst}
use mathlib.Core.List.{List}
use lib.ListN.{get_or}
use Rattle.differences.specs.declared.line.What.TheVariants.{Row}
use Rattle.differences.specs.declared.line.Line.{Line}
use Rattle.difflist.specs.Served.Placed.{Placed}
use Rattle.differences.specs.Records.{fields}
use Rattle.differences.proofs.LineLaws.{no_line}
use Rattle.difflist.proofs.FillLaws.{none_placed}
use Rattle.difflist.proofs.list.put_field.Goals as goal

pub returns-then-xs-f : goal.returns-then-xs-f
returns-then-xs-f c =
    subst (λ (l : List Line). Placed l c.args.k c.args.out.now c.args.out.now c.args.k) (no_line (get_or fields c.args.f Row) c.args.index c.if-xs-f.true) (none_placed c.args.k c.args.out.now)
