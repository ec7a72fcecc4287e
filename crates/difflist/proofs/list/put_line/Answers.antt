use mathlib.Core.Path.{refl, ap, ◌∙◌}
use mathlib.Core.List.{List}
use Prim.Native.Nat.{ℕ, ◌+◌, ◌*◌}
use lib.ListN.{get_or, set}
use Rattle.difflist.proofs.FillLaws.{line_placed}
use Rattle.difflist.proofs.list.put_line.Goals as goal

pub returns : goal.returns
returns c =
    let out = c.args.out.now in
    let i = 3 * c.args.k in
    record {
      counts = refl;
      fills = ap (λ (r : List ℕ). set (set (set out i (get_or r 0 0)) (i + 1) (get_or r 1 0)) (i + 2) (get_or r 2 0)) c.line_numbers-l.ensures
          ∙ line_placed c.args.line c.args.k out c.requires.1;
    }
