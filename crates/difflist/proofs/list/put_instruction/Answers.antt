use mathlib.Core.Path.{sym, subst}
use mathlib.Core.List.{List}
use native.Mathlib.Omega.{arith}
use Rattle.differences.specs.declared.line.Line.{Line}
use Rattle.difflist.specs.Served.Placed.{Placed}
use Rattle.diff.proofs.FewLaws.{few_a}
use Rattle.difflist.proofs.FillLaws.{none_placed}
use Rattle.difflist.proofs.list.put_instruction.Goals as goal

pub put_fields-requires : goal.put_fields-requires
put_fields-requires c =
    (omega (arith, c.requires.1, few_a c.args.first.now c.args.second.now c.requires.0), c.requires.2)

pub returns : goal.returns
returns c =
    subst (λ (x : List Line). Placed x c.args.k c.args.out.now c.args.out.now c.args.k) (sym (c.load.ensures.same c.if-load.false)) (none_placed c.args.k c.args.out.now)
