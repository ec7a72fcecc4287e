use mathlib.Core.Path.{subst}
use mathlib.Core.List.{Memᴰ}
use Rattle.diff.proofs.FewLaws.{part_index}
use Rattle.difflist.proofs.list.put_part.Goals as goal

pub put_single-requires : goal.put_single-requires
put_single-requires c =
    (λ l m. part_index c.args.first.now c.args.second.now c.requires.0.both c.args.p c.requires.1 c.requires.2 (subst (Memᴰ l) c.line_of_part.ensures m), c.requires.3)
